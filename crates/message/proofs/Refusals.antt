-- Every refusal of the five calls has a number from 1 to 27 but 26, or 28 of a move, and a place below 2 ^ 32.
-- Assumes nothing.
use Prim.Native.Nat.{ℕ, ◌+◌, ◌≤◌}
use mathlib.Core.Path.{◌≡◌}
use mathlib.Core.List.{List}
use native.Mathlib.Omega.{arith}
use lib.IntN.{ℤ}
use Rattle.wire.specs.Outcome.{Outcome}
use Rattle.wire.proofs.Meets.{Meets, good, missed, other_fault, then, check}
use Rattle.bson.proofs.Bounds.{UpTo}
use Rattle.opmsg.specs.Layout.{sections_end}
use Rattle.opmsg.specs.Read.{read}
use Rattle.opmsg.specs.declared.Edition.{Edition}
use Rattle.opmsg.proofs.Limits.{max_length_small}
use Rattle.opmsg.proofs.Accepted.{reads}
use Rattle.opmsg.proofs.Bounds.{most, read_bounded}
use Rattle.message.specs.Forward.{forward}
use Rattle.message.specs.Write.{write}
use Rattle.message.specs.Append.{append}
use Rattle.message.specs.Move.{move}
use Rattle.message.specs.Refusals.{Bounded, RefusalsBounded}

forward_bounded : (e : Edition) (s : List ℕ) (room : ℕ) → UpTo most (forward e s room)
unfolding forward
forward_bounded e s room = then _ (read_bounded e s) λ _ _ _. check 25 0 _ _ (omega arith) λ _. good tt

write_bounded : (e : Edition) (request_id response_to : ℤ) (flags : ℕ) (body : List ℕ) (room : ℕ) → UpTo most (write e request_id response_to flags body room)
unfolding write
write_bounded e request_id response_to flags body room =
    check 8 16 _ _ (omega arith) λ _.
    check 2 0 _ _ (omega arith) λ _.
    check 25 0 _ _ (omega arith) λ _.
    check 15 21 _ _ (omega arith) λ _.
    check 15 21 _ _ (omega arith) λ _.
    then _ (read_bounded e _) λ _ _ _.
    good tt

append_bounded : (e : Edition) (s identifier documents : List ℕ) (room : ℕ) → UpTo most (append e s identifier documents room)
unfolding append sections_end
append_bounded e s identifier documents room =
    then _ (read_bounded e s) λ v h _.
    let limit = (reads h).sound.limit in
    check 10 (sections_end s) _ _ (omega (arith, max_length_small)) λ _.
    check 14 (sections_end s) _ _ (omega (arith, max_length_small)) λ _.
    check 13 (sections_end s + 5) _ _ (omega (arith, max_length_small)) λ _.
    check 13 (sections_end s + 5) _ _ (omega (arith, max_length_small)) λ _.
    check 2 0 _ _ (omega arith) λ _.
    check 25 0 _ _ (omega arith) λ _.
    then _ (read_bounded e _) λ _ _ _.
    good tt

-- a refusal with a number from 1 to the last one but 26
abbrev Last : (last number place : ℕ) → Type 0
Last last number place = (1 ≤ number) × (number ≤ last) × ¬ (number ≡ 26) × (place ≤ most)

-- one of reading is one of a move
read_moves : (e : Edition) (s : List ℕ) → Meets (λ _. Unit {0}) (Last 28) (read e s)
read_moves e s = other_fault (λ number place q. (q.0, omega (arith, q.1), q.2, q.3)) (read_bounded e s)

move_bounded : (e : Edition) (s : List ℕ) (behind room : ℕ) → Meets (λ _. Unit {0}) (Last 28) (move e s behind room)
unfolding move
move_bounded e s behind room =
    then _ (read_moves e s) λ _ _ _.
    check 28 0 _ _ (omega arith) λ _.
    check 25 0 _ _ (omega arith) λ _.
    then _ (read_moves e _) λ _ _ _.
    good tt

-- and one whose own last number is not past another is bounded by that
bounded : {A : Type 0} {o : Outcome A} (last own : ℕ) → own ≤ last → Meets (λ _. Unit {0}) (Last own) o → Bounded last o
bounded last own l m number place h = let q = missed m h in (q.0, omega (arith, q.1), q.2, omega (arith, q.3))

pub refusals_bounded : RefusalsBounded
refusals_bounded = record {
  reads = λ e s. bounded _ 27 (omega arith) (read_bounded e s);
  forwards = λ e s room. bounded _ 27 (omega arith) (forward_bounded e s room);
  writes = λ e i j flags body room. bounded _ 27 (omega arith) (write_bounded e i j flags body room);
  appends = λ e s identifier documents room. bounded _ 27 (omega arith) (append_bounded e s identifier documents room);
  moves = λ e s behind room. bounded _ 28 (omega arith) (move_bounded e s behind room);
}
