-- What an answer keeps to: its value one fact, and the number and the place of its refusal another.
-- Assumes nothing.
use Prim.Native.Nat.{ℕ, zero, suc, ◌+◌, ◌<◌}
use mathlib.Core.Bool.{Bool, true, false}
use mathlib.Core.Path.{◌≡◌, refl, subst}
use mathlib.Core.List.{List, [], ◌∷◌}
use native.Mathlib.Omega.{arith}
use lib.ListN.{length, drop, length-drop}
use Rattle.wire.specs.Outcome.{Outcome, ok, refused, refuse, ◌>>=◌}
use Rattle.wire.specs.Walk.{Step, Reader, walk}
use Rattle.wire.proofs.Outcome.{not_ok, ok_same}
use Rattle.wire.proofs.Walk.{walk_done, walk_step}

pub data Meets {A : Type 0} (P : A → Type 0) (Q : ℕ → ℕ → Type 0) : Outcome A → Type 0 where
  good : {a : A} → P a → Meets P Q (ok a)
  fault : {number place : ℕ} → Q number place → Meets P Q (refused number place)

-- what is known of a value
pub met : {A : Type 0} {P : A → Type 0} {Q : ℕ → ℕ → Type 0} {o : Outcome A} {a : A} → Meets P Q o → o ≡ ok a → P a
met {P = P} (good h) e = subst P (ok_same e) h
met (fault q) e = not_ok e

-- what is known of a refusal
pub missed : {A : Type 0} {P : A → Type 0} {Q : ℕ → ℕ → Type 0} {o : Outcome A} {number place : ℕ} → Meets P Q o → o ≡ refused number place → Q number place
missed (good h) e = let z : ◌≡◌ {A = ℕ} 0 1 = cc in absurd (omega arith)
missed {Q = Q} (fault {number = n} {place = p} q) e = go Q n p _ _ q (cc) (cc)
  where
    go : (Q : ℕ → ℕ → Type 0) (n p m q : ℕ) → Q n p → n ≡ m → p ≡ q → Q m q
    go Q n p m q h e f = rw (e, f) at h

-- another fact of the value, and another of the refusal
pub knowing : {A : Type 0} {P R : A → Type 0} {Q : ℕ → ℕ → Type 0} {o : Outcome A} → Meets P Q o → ((a : A) → o ≡ ok a → R a) → Meets R Q o
knowing (good {a = a} h) k = good (k a refl)
knowing (fault q) k = fault q

pub other_fault : {A : Type 0} {P : A → Type 0} {Q R : ℕ → ℕ → Type 0} {o : Outcome A} → ((number place : ℕ) → Q number place → R number place) → Meets P Q o → Meets P R o
other_fault k (good h) = good h
other_fault k (fault {number} {place} q) = fault (k number place q)

-- checks in a row
pub then : {A B : Type 0} {P : A → Type 0} {R : B → Type 0} {Q : ℕ → ℕ → Type 0} {o : Outcome A} (f : A → Outcome B)
    → Meets P Q o → ((a : A) → o ≡ ok a → P a → Meets R Q (f a)) → Meets R Q (o >>= f)
unfolding ◌>>=◌
then f (good {a = a} h) k = k a refl h
then f (fault q) k = fault q

pub check : {A : Type 0} {P : A → Type 0} {Q : ℕ → ℕ → Type 0} (number place : ℕ) (t : Bool) (f : Unit {0} → Outcome A) → Q number place → (t ≡ false → Meets P Q (f tt))
    → Meets P Q (refuse number place t >>= f)
unfolding ◌>>=◌ refuse
check number place true f q k = fault q
check number place false f q k = k refl

pub last : {Q : ℕ → ℕ → Type 0} (number place : ℕ) (t : Bool) → Q number place → Meets (λ (_ : Unit {0}). Unit {0}) Q (refuse number place t)
unfolding refuse
last number place true q = fault q
last number place false q = good tt

-- a walk over bytes that end before a place: so do those of each thing in it
module _ {S : Type 0} (reader : Reader S) (P : S → Type 0) (Q : ℕ → ℕ → Type 0) (to : ℕ)
    (each : (at : ℕ) (xs : List ℕ) (s : S) → at + length xs < to → 0 < length xs → P s → Meets (λ (one : Step S). P one.state) Q (reader at xs s)) where
  -- where nothing is left, the state stays
  pub walk_meets : (turns at : ℕ) (xs : List ℕ) (s : S) → (0 < length xs → at + length xs < to) → P s → Meets P Q (walk reader turns at xs s)
  walk_meets zero at xs s u p = unfold walk in good p
  walk_meets (suc turns) at [] s u p = rw (walk_done reader (suc turns) at s) (good p)
  walk_meets (suc turns) at (x ∷ xs) s u p =
      let some : 0 < length (x ∷ xs) = omega arith in
      let left : (n : ℕ) → 0 < length (drop n (x ∷ xs)) → at + n + length (drop n (x ∷ xs)) < to = λ n k. omega (arith, u some, length-drop n (x ∷ xs)) in
      rw (walk_step reader turns at (x ∷ xs) s some)
      (then _ (each at (x ∷ xs) s (u some) some p) λ one _ r. walk_meets turns (at + one.size) (drop one.size (x ∷ xs)) one.state (left one.size) r)
