-- Checks in a row: what is known of those passed is proved once, and the next one answers where its test holds.
-- Assumes nothing.
use Prim.Native.Nat.{ℕ, zero, suc}
use mathlib.Core.Bool.{Bool, true, false}
use mathlib.Core.Path.{◌≡◌, refl, sym, ◌∙◌}
use mathlib.Core.List.{List, [], ◌∷◌}
use Rattle.wire.specs.Outcome.{Outcome, ok, refused, refuse, ◌>>=◌}
use Rattle.wire.proofs.Outcome.{pass, stop}

-- a check: it refuses with a number at a place where its test holds
pub data Check : Type 0 where
  check : (number place : ℕ) → Bool → Check

-- checks, and what comes behind them, as a definition writes them
abbrev pub row : {A : Type 0} → List Check → Outcome A → Outcome A
row [] o = o
row (check number place t ∷ cs) o = refuse number place t >>= λ _. row cs o

-- checks, and nothing behind them
abbrev pub alone : List Check → Outcome (Unit {0})
alone [] = ok tt
alone (check number place t ∷ []) = refuse number place t
alone (check number place t ∷ c ∷ cs) = refuse number place t >>= λ _. alone (c ∷ cs)

-- the test of the check behind the first k; behind the last one there is nothing to test
abbrev pub test_at : ℕ → List Check → Bool
test_at k [] = true
test_at zero (check number place t ∷ cs) = t
test_at (suc k) (c ∷ cs) = test_at k cs

-- its answer; behind the last one it is what comes there
abbrev pub answer_at : {A : Type 0} → ℕ → List Check → Outcome A → Outcome A
answer_at k [] o = o
answer_at zero (check number place t ∷ cs) o = refused number place
answer_at (suc k) (c ∷ cs) o = answer_at k cs o

-- the first k checks are passed
abbrev pub Passed : ℕ → List Check → Type 0
Passed zero cs = Unit
Passed (suc k) cs = Passed k cs × (test_at k cs ≡ false)

first_passed : (k : ℕ) (c : Check) (cs : List Check) → Passed (suc k) (c ∷ cs) → (test_at 0 (c ∷ []) ≡ false) × Passed k cs
first_passed zero (check number place t) cs p = (p.1, tt)
first_passed (suc k) c cs p = let q = first_passed k c cs p.0 in (q.0, (q.1, p.1))

row_answers : {A : Type 0} (k : ℕ) (cs : List Check) (o : Outcome A) → Passed k cs → test_at k cs ≡ true → answer_at k cs o ≡ row cs o
row_answers k [] o p h = refl
row_answers zero (check number place t ∷ cs) o p h = sym (stop number place _ h)
row_answers (suc k) (check number place t ∷ cs) o p h =
    let q = first_passed k (check number place t) cs p in
    row_answers k cs o q.1 h ∙ sym (pass number place _ q.0)

row_alone : (cs : List Check) → row cs (ok tt) ≡ alone cs
unfolding ◌>>=◌ refuse
row_alone [] = refl
row_alone (check number place true ∷ []) = refl
row_alone (check number place false ∷ []) = refl
row_alone (check number place true ∷ c ∷ cs) = refl
row_alone (check number place false ∷ c ∷ cs) = row_alone (c ∷ cs)

-- in code: a place behind the first k checks of what was given at the start
pub record Past {S : Type 0} (checks : S → List Check) (k : ℕ) : Type 0 where
  pub given : S
  pub passed : Passed k (checks given)

abbrev pub first : {S : Type 0} {checks : S → List Check} → S → Past checks 0
first s = record { given = s; passed = tt }

abbrev pub next : {S : Type 0} {checks : S → List Check} {k : ℕ} (p : Past checks k) → test_at k (checks p.given) ≡ false → Past checks (suc k)
next p h = record { given = p.given; passed = (p.passed, h) }

-- there a definition answers by the next check, where its test holds
module _ {S : Type 0} {checks : S → List Check} {k : ℕ} (p : Past checks k) where
  abbrev pub Answers : {A : Type 0} → (behind definition : Outcome A) → Type 0
  Answers behind definition = test_at k (checks p.given) ≡ true → answer_at k (checks p.given) behind ≡ definition

  pub answers : {A : Type 0} (o : Outcome A) → Answers o (row (checks p.given) o)
  answers o h = row_answers k (checks p.given) o p.passed h

  pub answers_alone : Answers (ok tt) (alone (checks p.given))
  answers_alone h = row_answers k (checks p.given) (ok tt) p.passed h ∙ row_alone (checks p.given)
