-- `message_forward_store::reseal` meets its contract: of few bytes the checksum is worked out, and of many the old one is refreshed.
-- Assumes nothing.
use mathlib.Core.Path.{sym, ap, ◌∙◌}
use mathlib.Core.List.{List}
use Prim.Native.Nat.{ℕ}
use native.Mathlib.Omega.{arith}
use borrow.Author.Rules.{rules}
use Rattle.wire.specs.Bytes.{put}
use Rattle.message.proofs.Message.{checksum_without}
use Rattle.message_seal.proofs.Stores.{put_none}
use Rattle.message_forward_store.proofs.Reseals.{reseal_bounds, reseals}
use Rattle.message_forward_store.proofs.reseal.Statement.{statement}
use Rattle.message_forward_store.proofs.reseal.Tie as tie

refreshed-requires : tie.Need-refreshed-sum-requires
refreshed-requires c κs = reseal_bounds _ _ _ _ c.requires

returns-2 : tie.Need-returns-then-checksummed
returns-2 c =
    let w = c in
    let r = c in
    let t = c in
    let known = c in
    let a = c in
    let set = sym t.checksummed.ensures ∙ t.if-checksummed.true in
    w.put_word.ensures
    ∙ ap (λ (l : List ℕ). put a.args.end l a.args.out.now)
    (sym (reseals _ _ _ _ a.requires (λ i. omega (arith, known.shared_slice_known-1.given i)) set _ r.refreshed-sum.ensures))

returns-3 : tie.Need-returns-else-checksummed
returns-3 c =
    let t = c in
    let a = c in
    rw (checksum_without _ _ (sym t.checksummed.ensures ∙ c.if-checksummed.false)) (sym (put_none _ _ a.requires.room))

pub reseal_spec : {M : Type 1} → statement M
reseal_spec =
    tie.close
    (tie.spec
    (λ c κs. search rules)
    (λ c. search rules)
    (λ c. search rules)
    (λ c κs. search rules)
    refreshed-requires
    (λ c κs. search rules)
    (λ c. search rules)
    returns-2
    returns-3)
