-- Each field is put behind those before it.
use Rattle.std.proofs.Common.{[], ◌∷◌, to_z-of_z, w32, rules, arith}
use Rattle.listing_lines.specs.Lines.{message_line}
use Rattle.listing_lines.proofs.Lines.{eight_fields}
use Rattle.listing_lines.proofs.Texts.{begun, ended, given_back}
use Rattle.listing_lines.proofs.message_line.Goals as goal

pub returns-clause-text_written : goal.returns-clause-text_written
unfolding message_line
returns-clause-text_written c =
    let w = begun (109 ∷ 115 ∷ 103 ∷ 9 ∷ []) c.put.ensures (omega (arith, c.fits-out)) in
    let id = to_z-of_z {w = w32} {z = c.args.m.request_id} (search rules) in
    let to = to_z-of_z {w = w32} {z = c.args.m.response_to} (search rules) in
    let ids = c.signed-2.ensures.written _ _ (c.signed.ensures.written _ _ (c.number-2.ensures.written _ _ (c.number.ensures.written _ _ w))) in
    given_back
    (ended (eight_fields _ _ _ _ _ _ _ _) (rw (id, to) at (c.number-5.ensures.written _ _ (c.number-4.ensures.written _ _ (c.number-3.ensures.written _ _ ids))))).0
    (search rules)
