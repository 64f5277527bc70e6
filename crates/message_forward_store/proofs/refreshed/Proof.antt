-- `message_forward_store::refreshed` meets its contract: the two words are those of the message.
-- Assumes nothing.
use mathlib.Core.Path.{ap, ap₂, ◌∙◌}
use Prim.Native.Nat.{ℕ, ◌-◌}
use borrow.Author.Rules.{rules}
use Rattle.wire.specs.Bytes.{word, word_at}
use Rattle.wire.proofs.Parts.{rest_part}
use Rattle.crc32c_refresh.specs.Refresh.{refreshed}
use Rattle.message_forward_store.proofs.refreshed.Statement.{statement}
use Rattle.message_forward_store.proofs.refreshed.Tie as tie

returns : tie.Need-returns
unfolding word_at
returns c =
    let flags = c in
    let sum = c in
    let a = sum.args in
    c.refresh.ensures
    ∙ ap₂ (λ (x y : ℕ). refreshed x y a.flags (a.end - 20)) (sum.word.ensures ∙ ap word (rest_part a.end a.s.now)) (flags.word-2.ensures ∙ ap word (rest_part 16 a.s.now))

pub refreshed_spec : {M : Type 1} → statement M
refreshed_spec =
    tie.close
    (tie.spec
    (λ c. search rules)
    (λ c. search rules)
    (λ c. search rules)
    (λ c κs. search rules)
    (λ c. search rules)
    (λ c. search rules)
    (λ c. search rules)
    (λ c κs. search rules)
    (λ c. search rules)
    (λ c κs. search rules)
    returns)
