-- Each field is put behind those before it.
use Rattle.std.proofs.Common.{[], ◌∷◌, rules, arith}
use Rattle.listing_lines.specs.Lines.{bad_line}
use Rattle.listing_lines.proofs.Lines.{four_fields}
use Rattle.listing_lines.proofs.Texts.{begun, ended, given_back}
use Rattle.listing_lines.proofs.bad_line.Goals as goal

pub returns-clause-text_written : goal.returns-clause-text_written
unfolding bad_line
returns-clause-text_written c =
    let w = begun (98 ∷ 97 ∷ 100 ∷ 9 ∷ []) c.put.ensures (omega (arith, c.fits-out)) in
    given_back (ended (four_fields _ _ _ _) (c.number-3.ensures.written _ _ (c.number-2.ensures.written _ _ (c.number.ensures.written _ _ w)))).0 (search rules)
