-- `message_write_store::written` meets its contract: each part of the message is stored behind those before it.
-- Assumes nothing.
use mathlib.Core.Path.{ap, ◌∙◌}
use mir.Facts.{to_z-of_z}
use borrow.Author.Rules.{rules}
use Rattle.wire.specs.Bytes.{bits32}
use Rattle.message_write_store.proofs.Laid.{kind_fits, laid, laid_length}
use Rattle.message_write_store.proofs.written.Statement.{statement}
use Rattle.message_write_store.proofs.written.Tie as tie

slice-write-out : tie.Need-bounds-out-20
slice-write-out c =
    let p2 = c in
    let p6 = c in
    let p10 = c in
    let p11 = c in
    let p15 = c in
    let p16 = c in
    let p20 = c in
    let p24 = c in
    let i = p16.bits32.ensures ∙ ap bits32 (to_z-of_z p24.ranges.request_id) in
    let j = p11.bits32-2.ensures ∙ ap bits32 (to_z-of_z p24.ranges.response_to) in
    kind_fits _ _ _ _ _ _ _ _ _ _ (rw p24.requires.0 at p24.requires.1) (rw p24.requires.0 at p20.put_word.ensures) (rw i at p15.put_word-2.ensures) (rw j at p10.put_word-3.ensures) p6.put_word-4.ensures p2.put_word-5.ensures

returns : tie.Need-returns
returns c =
    let p2 = c in
    let p6 = c in
    let p10 = c in
    let p14 = c in
    let p18 = c in
    let p19 = c in
    let p23 = c in
    let p24 = c in
    let p28 = c in
    let p32 = c in
    let i = p24.bits32.ensures ∙ ap bits32 (to_z-of_z p32.ranges.request_id) in
    let j = p19.bits32-2.ensures ∙ ap bits32 (to_z-of_z p32.ranges.response_to) in
    laid _ _ _ _ _ _ _ _ _ _ (rw p32.requires.0 at p32.requires.1) (rw p32.requires.0 at p28.put_word.ensures) (rw i at p23.put_word-2.ensures) (rw j at p18.put_word-3.ensures)
    p14.put_word-4.ensures p10.put_word-5.ensures p6.put.ensures p2.seal.ensures

same_length : tie.Need-shape_of-out
same_length c =
    let p16 = c in
    let p32 = c in
    laid_length _ _ _ _ _ _ (rw p32.requires.0 at p32.requires.1) (returns c)

pub written_spec : {M : Type 1} → statement M
written_spec =
    tie.close
    (tie.spec
    (λ c κs. search rules)
    (λ c κs. search rules)
    (λ c κs. search rules)
    (λ c κs. search rules)
    (λ c κs. search rules)
    (λ c κs. search rules)
    (λ c κs. search rules)
    slice-write-out
    (λ c κs. search rules)
    (λ c. search rules)
    (λ c κs. search rules)
    same_length
    returns)
