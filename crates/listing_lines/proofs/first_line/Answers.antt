-- Each field is put behind those before it.
use Rattle.std.proofs.Common.{[], ◌∷◌, rules, arith}
use Rattle.listing_lines.specs.Lines.{first_line}
use Rattle.listing_lines.proofs.Lines.{two_fields}
use Rattle.listing_lines.proofs.Texts.{begun, ended, given_back}
use Rattle.listing_lines.proofs.first_line.Goals as goal

pub returns-clause-text_written : goal.returns-clause-text_written
unfolding first_line
returns-clause-text_written c =
    let w = begun (114 ∷ 101 ∷ 108 ∷ 97 ∷ 121 ∷ 45 ∷ 108 ∷ 111 ∷ 103 ∷ 9 ∷ []) c.put.ensures (omega (arith, c.fits-out)) in
    given_back (ended (two_fields _ _) (c.number.ensures.written _ _ w)).0 (search rules)
