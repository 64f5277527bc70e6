-- `message_append_store::section` meets its contract: its bytes are stored one behind the other.
-- Assumes nothing.
use Prim.Native.Nat.{◌+◌}
use native.Mathlib.Omega.{arith}
use lib.ListN.{length, length-set}
use borrow.Author.Rules.{rules}
use Rattle.message_append_store.proofs.Grown.{section_stored}
use Rattle.message_append_store.proofs.section.Statement.{statement}
use Rattle.message_append_store.proofs.section.Tie as tie

slice-write-out-2 : tie.Need-bounds-out-at-2
slice-write-out-2 c =
    let p2 = c in
    let p6 = c in
    let p11 = c in
    omega (arith, p2.put.auto.out, p6.put_word.auto.out, length-set p11.args.out.now p11.args.at 1, p11.requires.0)

same_length : tie.Need-shape_of-out
same_length c =
    let p2 = c in
    let p6 = c in
    let p10 = c in
    let p15 = c in
    omega (arith, p2.put-2.auto.out, length-set p6.put.new.out (p15.args.at + 5 + length p15.args.identifier.now) 0, p6.put.auto.out, p10.put_word.auto.out, length-set p15.args.out.now p15.args.at 1)

returns : tie.Need-returns
returns c =
    let p2 = c in
    let p6 = c in
    let p10 = c in
    section_stored _ _ _ _ p10.requires.0 p10.put_word.ensures p6.put.ensures p2.put-2.ensures

pub section_spec : {M : Type 1} → statement M
section_spec =
    tie.close
    (tie.spec
    (λ c. search rules)
    (λ c. search rules)
    (λ c. search rules)
    (λ c. search rules)
    (λ c. search rules)
    (λ c κs. search rules)
    (λ c. search rules)
    (λ c κs. search rules)
    (λ c. search rules)
    (λ c. search rules)
    slice-write-out-2
    (λ c. search rules)
    (λ c. search rules)
    (λ c κs. search rules)
    same_length
    returns)
