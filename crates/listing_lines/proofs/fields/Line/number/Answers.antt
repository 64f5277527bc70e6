-- The digits that `io` spells are put behind the text, and the byte behind them.
use Rattle.std.proofs.Common.{◌∙◌, arith}
use Rattle.listing_lines.proofs.Digits.{spelled_decimal, few_digits}
use Rattle.listing_lines.proofs.Texts.{field_behind}
use Rattle.listing_lines.proofs.fields.Line.number.Goals as goal

pub returns-clause-written : goal.returns-clause-written
returns-clause-written c = λ text old w.
    let spelled = c.decimal-k.ensures in
    let few = few_digits c.decimal-k.result c.args.n spelled.len c.ranges.n.fits in
    field_behind c.args.last w c.put.ensures (spelled.digits ∙ spelled_decimal _ _ spelled.len) spelled.in_bounds.1 (omega (arith, few, c.requires))
