-- Each field is put behind those before it.
use Rattle.std.proofs.Common.{[], ◌∷◌, rules, arith}
use Rattle.listing_lines.specs.Lines.{big_line}
use Rattle.listing_lines.proofs.Lines.{three_fields}
use Rattle.listing_lines.proofs.Texts.{begun, ended, given_back}
use Rattle.listing_lines.proofs.big_line.Goals as goal

pub returns-clause-text_written : goal.returns-clause-text_written
unfolding big_line
returns-clause-text_written c =
    let w = begun (98 ∷ 105 ∷ 103 ∷ 9 ∷ []) c.put.ensures (omega (arith, c.fits-out)) in
    given_back (ended (three_fields _ _ _) (c.number-2.ensures.written _ _ (c.number.ensures.written _ _ w))).0 (search rules)
