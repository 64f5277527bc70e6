-- Laws of answers: an accepted answer passed every check on its way, and checks in a row go on from each other.
-- Assumes nothing.
use Prim.Native.Nat.{ℕ, ◌^◌, ◌≤◌, ◌<◌}
use mathlib.Core.Bool.{Bool, true, false, not, ◌||◌}
use mathlib.Core.Path.{◌≡◌, refl}
use mathlib.Core.Logic.{◌↔◌}
use native.Mathlib.Omega.{arith}
use lib.Dec.{ltb, leb, eqb}
use borrow.Author.Tests.{ltb-false, leb-false, eqb-true, not-false, le-ltb, lt-leb, eq-eqb}
use Rattle.wire.specs.Outcome.{Outcome, ok, refused, refuse, ◌>>=◌}
use Rattle.wire.specs.Bytes.{under}
use Rattle.wire.proofs.Bytes.{not_under, under_false}

-- a refusal is no value
pub not_ok {ℓ} : {A : Type ℓ} {B : Type 0} {number place : ℕ} {b : B} → refused number place ≡ ok b → A
not_ok e = let z : ◌≡◌ {A = ℕ} 0 1 = cc in absurd (omega arith)

pub ok_same : {A : Type 0} {a b : A} → ok a ≡ ok b → a ≡ b
ok_same e = cc

-- ---- what an accepted answer tells of its parts

-- what goes on behind an answer that was accepted
pub went : {A B : Type 0} (o : Outcome A) (f : A → Outcome B) {b : B} → (o >>= f) ≡ ok b → (a : A) × (o ≡ ok a) × (f a ≡ ok b)
unfolding ◌>>=◌
went (ok a) f h = (a, refl, h)
went (refused number place) f h = not_ok h

-- the same, handed on
pub bound : {A B P : Type 0} (o : Outcome A) (f : A → Outcome B) {b : B} → (o >>= f) ≡ ok b → ((a : A) → o ≡ ok a → f a ≡ ok b → P) → P
bound o f h then = let w = went o f h in then w.0 w.1 w.2

-- a check that was passed
pub passed : {A : Type 0} (number place : ℕ) (t : Bool) (f : Unit {0} → Outcome A) {a : A} → (refuse number place t >>= f) ≡ ok a → (t ≡ false) × (f tt ≡ ok a)
unfolding ◌>>=◌ refuse
passed number place true f h = not_ok h
passed number place false f h = (refl, h)

-- the last of the checks
pub clear : (number place : ℕ) (t : Bool) {u : Unit {0}} → refuse number place t ≡ ok u → t ≡ false
unfolding refuse
clear number place true h = not_ok h
clear number place false h = refl

-- ---- what follows from the parts

-- a check that passes
pub pass : {A : Type 0} (number place : ℕ) {t : Bool} (f : Unit {0} → Outcome A) → t ≡ false → (refuse number place t >>= f) ≡ f tt
unfolding ◌>>=◌ refuse
pass number place f e = rw e

-- a check that refuses
pub stop : {A : Type 0} (number place : ℕ) {t : Bool} (f : Unit {0} → Outcome A) → t ≡ true → (refuse number place t >>= f) ≡ refused number place
unfolding ◌>>=◌ refuse
stop number place f e = rw e

-- two checks that refuse alike
pub either : {A : Type 0} (number place : ℕ) (a b : Bool) (f : Unit {0} → Outcome A) → (refuse number place a >>= λ _. refuse number place b >>= f) ≡ (refuse number place (a || b) >>= f)
unfolding ◌>>=◌ refuse
either number place true b f = refl
either number place false b f = refl

-- going on behind an answer that is known
pub go_on : {A B : Type 0} {o : Outcome A} {a : A} (f : A → Outcome B) → o ≡ ok a → (o >>= f) ≡ f a
unfolding ◌>>=◌
go_on f e = rw e

-- and behind a refusal
pub halt : {A B : Type 0} {o : Outcome A} {number place : ℕ} (f : A → Outcome B) → o ≡ refused number place → (o >>= f) ≡ refused number place
unfolding ◌>>=◌
halt f e = rw e

-- two ways to go on that are the same behind what was accepted
pub same_after : {A B : Type 0} (o : Outcome A) (f g : A → Outcome B) → ((a : A) → o ≡ ok a → f a ≡ g a) → (o >>= f) ≡ (o >>= g)
unfolding ◌>>=◌
same_after (ok a) f g k = k a refl
same_after (refused number place) f g k = refl

-- going on twice is going on once
pub assoc : {A B C : Type 0} (o : Outcome A) (f : A → Outcome B) (g : B → Outcome C) → (o >>= f >>= g) ≡ (o >>= λ a. f a >>= g)
unfolding ◌>>=◌
assoc (ok a) f g = refl
assoc (refused number place) f g = refl

-- ---- a check and what comes after it give a value: the test fails, and the rest gives it

module _ {A : Type 0} (number place : ℕ) (f : Unit {0} → Outcome A) (r : A) where
  pub check_ltb : (a b : ℕ) → ((refuse number place (ltb a b) >>= f) ≡ ok r) ↔ ((b ≤ a) × (f tt ≡ ok r))
  check_ltb a b = (λ e. let p = passed _ _ _ _ e in (ltb-false a b p.0, p.1), λ p. rw (pass number place f (le-ltb a b p.0)) p.1)

  pub check_leb : (a b : ℕ) → ((refuse number place (leb a b) >>= f) ≡ ok r) ↔ ((b < a) × (f tt ≡ ok r))
  check_leb a b = (λ e. let p = passed _ _ _ _ e in (leb-false a b p.0, p.1), λ p. rw (pass number place f (lt-leb a b p.0)) p.1)

  pub check_eqb : (a b : ℕ) → ((refuse number place (not (eqb a b)) >>= f) ≡ ok r) ↔ ((a ≡ b) × (f tt ≡ ok r))
  check_eqb a b = (
    λ e. let p = passed _ _ _ _ e in (eqb-true a b (not-false _ p.0), p.1),
    λ p. let t : not (eqb a b) ≡ false = rw (eq-eqb a b p.0) in rw (pass number place f t) p.1,
  )

  pub check_under : (n w : ℕ) → ((refuse number place (under n w) >>= f) ≡ ok r) ↔ ((n ≤ w) × (w < 2 ^ 31) × (f tt ≡ ok r))
  check_under n w = (
    λ e. let p = passed _ _ _ _ e in let q = under_false n w p.0 in (q.0, q.1, p.1),
    λ p. rw (pass number place f (not_under n w p.0 p.1)) p.2,
  )
