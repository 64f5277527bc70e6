-- Each arm is told the first byte, or that there is none.
use Rattle.std.proofs.Common.{◌≡◌, ℕ, ◌≤◌, ◌<◌, List, [], ◌∷◌, length, arith}
use Rattle.std.specs.Prelude.{Some, None, slice_get, refl}
use borrow.Author.Tests.{lt-ltb, le-ltb}
use Rattle.wire.specs.Outcome.{ok, refused, refuse, ◌>>=◌}
use Rattle.bson_values.specs.Value.{boolean}
use Rattle.bson_values.proofs.boolean.Goals as goal

module _ (v b : ℕ) where
  taken : (xs : List ℕ) → Some b ≡ slice_get xs 0 → b ≤ 1 → ok 1 ≡ boolean v xs
  unfolding boolean ◌>>=◌ refuse
  taken [] e l = cc
  taken (x ∷ xs) e l = let q : b ≡ x = cc in rw (boolean, le-ltb (length (x ∷ xs)) 1 (omega arith), le-ltb 1 x (omega arith))

  broken : (xs : List ℕ) → Some b ≡ slice_get xs 0 → 1 < b → refused 19 v ≡ boolean v xs
  unfolding boolean ◌>>=◌ refuse
  broken [] e l = cc
  broken (x ∷ xs) e l = let q : b ≡ x = cc in rw (boolean, le-ltb (length (x ∷ xs)) 1 (omega arith), lt-ltb 1 x (omega arith))

-- no byte
none : (v : ℕ) (xs : List ℕ) → None ≡ slice_get xs 0 → refused 19 v ≡ boolean v xs
unfolding boolean ◌>>=◌ refuse
none v [] e = refl
none v (x ∷ xs) e = cc

pub returns-in-Some-clause-is : goal.returns-in-Some-clause-is
returns-in-Some-clause-is c v at = taken v _ c.args.s.now c.in-Some.ensures.value c.if-b-le1.true

pub returns-in_default-clause-is : goal.returns-in_default-clause-is
returns-in_default-clause-is c v at = broken v _ c.args.s.now c.in-Some.ensures.value c.if-b-le1.false

pub returns-in_default-2-clause-is : goal.returns-in_default-2-clause-is
returns-in_default-2-clause-is c v at = none v c.args.s.now (rw c.in_default.is at c.first.ensures.value)
