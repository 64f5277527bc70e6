-- `message_seal::seal` meets its contract: where the flag word has bit 0, the checksum is stored, and else nothing.
-- Assumes nothing.
use mathlib.Core.Path.{sym, ◌∙◌}
use native.Mathlib.Omega.{arith}
use lib.Seq.{length-take-le}
use borrow.Author.Rules.{rules}
use Rattle.wire.proofs.Parts.{put_too_long}
use Rattle.message.proofs.Message.{checksum_with, checksum_without}
use Rattle.message_seal.proofs.Stores.{put_none}
use Rattle.message_seal.proofs.seal.Statement.{statement}
use Rattle.message_seal.proofs.seal.Tie as tie

returns-2 : tie.Need-returns-then-checksummed
returns-2 c =
    let p2 = c in
    let p4 = c in
    let p6 = c in
    p2.put_word.ensures ∙ rw (checksum_with _ _ (sym p6.checksummed.ensures ∙ p6.if-checksummed.true), ← p4.crc-sum.ensures)

returns-3 : tie.Need-returns-else-checksummed
returns-3 c = rw (checksum_without _ _ (sym c.checksummed.ensures ∙ c.if-checksummed.false)) (sym (put_none _ _ c.if-out-end.false))

pub seal_spec : {M : Type 1} → statement M
seal_spec =
    tie.close
    (tie.spec
    (λ c. sym (put_too_long _ _ _ (omega arith)))
    (λ c κs. search rules)
    (λ c. search rules)
    (λ c. sym (length-take-le _ _ c.if-out-end.false))
    (λ c κs. search rules)
    (λ c κs. search rules)
    (λ c. search rules)
    returns-2
    returns-3)
