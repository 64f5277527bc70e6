-- A value by its parts, as code reads them: what the answer on each says of the whole.
-- Assumes nothing.
use Prim.Native.Nat.{ℕ, ◌+◌, ◌-◌, ◌≤◌}
use mathlib.Core.Bool.{Bool, true, false, not}
use mathlib.Core.Path.{◌≡◌, refl, sym, ◌∙◌}
use mathlib.Core.List.{List}
use native.Mathlib.Omega.{arith}
use lib.ListN.{length, get_or, take, drop}
use lib.Dec.{ltb, eqb}
use Rattle.wire.specs.Outcome.{Outcome, ok, refused, refuse, ◌>>=◌}
use Rattle.wire.specs.Bytes.{word, under}
use Rattle.wire.proofs.Outcome.{halt, same_after, either}
use Rattle.utf8.specs.Text.{text_at}
use Rattle.bson_values.specs.declared.ValueError.{ValueError}
use Rattle.bson_values.specs.Value.{Value, scoped, string, binary, code_with_scope}
use Rattle.bson_values.specs.Inner.{fault, FaultWithin, counted, behind, miscounted}

-- the fault of a part is that of the whole
pub passed_on : {A B : Type 0} (e : ValueError) (v at : ℕ) (o : Outcome A) (f : A → Outcome B) → fault v at e ≡ o → fault v at e ≡ (o >>= f)
passed_on ValueError.Broken v at o f h = sym (halt f (sym h))
passed_on (ValueError.IllFormed n) v at o f h = sym (halt f (sym h))

-- and one that lies within n bytes lies within more
pub reaches_on : (e : ValueError) (m n : ℕ) → m ≤ n → FaultWithin m e → FaultWithin n e
reaches_on ValueError.Broken m n l h = tt
reaches_on (ValueError.IllFormed k) m n l h = omega arith

-- ---- a length, and what comes behind it

counted_then : {A : Type 0} (v least : ℕ) (xs : List ℕ) (f : ℕ → Outcome A)
    → (counted v least xs >>= f) ≡ (refuse 19 v (ltb (length xs) 4) >>= λ _. refuse 19 v (under least (word xs)) >>= λ _. f (word xs))
unfolding ◌>>=◌ refuse
counted_then v least xs f = go (ltb (length xs) 4) (under least (word xs))
  where
    go : (a b : Bool) → ((refuse 19 v a >>= λ _. refuse 19 v b >>= λ _. ok (word xs)) >>= f) ≡ (refuse 19 v a >>= λ _. refuse 19 v b >>= λ _. f (word xs))
    go true b = refl
    go false true = refl
    go false false = refl

abbrev pub string_of : (v at : ℕ) → List ℕ → ℕ → Outcome ℕ
string_of v at xs n = do
  _ ← refuse 19 v (ltb (length xs) (4 + n))
  _ ← refuse 19 v (not (eqb (get_or xs (3 + n) 0) 0))
  _ ← text_at (at + 4) (take (n - 1) (drop 4 xs))
  ok (4 + n)

pub string_is : (v at : ℕ) (xs : List ℕ) → (counted v 1 xs >>= string_of v at xs) ≡ string v at xs
unfolding string
string_is v at xs = counted_then v 1 xs (string_of v at xs)

abbrev pub binary_of : (v : ℕ) → List ℕ → ℕ → Outcome ℕ
binary_of v xs n = do
  _ ← refuse 19 v (ltb (length xs) (5 + n))
  _ ← refuse 19 v (miscounted n xs)
  ok (5 + n)

pub binary_is : (v : ℕ) (xs : List ℕ) → (counted v 0 xs >>= binary_of v xs) ≡ binary v xs
unfolding binary
binary_is v xs =
    counted_then v 0 xs (binary_of v xs)
    ∙ same_after (refuse 19 v (ltb (length xs) 4)) _ _ λ _ _. same_after (refuse 19 v (under 0 (word xs))) _ _ λ _ _. same_after (refuse 19 v (ltb (length xs) (5 + word xs))) _ _ λ _ _. sym (either 19 v _ _ _)

abbrev pub code_of : (v : ℕ) → List ℕ → ℕ → Outcome Value
code_of v xs t = do
  _ ← refuse 19 v (ltb (length xs) t)
  start ← behind 4 (string v (v + 4) (take (t - 4) (drop 4 xs)))
  ok (scoped start t)

behind_then : (m t : ℕ) (o : Outcome ℕ) → (behind m o >>= λ start. ok (scoped start t)) ≡ (o >>= λ n. ok (scoped (m + n) t))
unfolding ◌>>=◌
behind_then m t (ok n) = refl
behind_then m t (refused number place) = refl

pub code_is : (v : ℕ) (xs : List ℕ) → (counted v 14 xs >>= code_of v xs) ≡ code_with_scope v xs
unfolding code_with_scope
code_is v xs =
    counted_then v 14 xs (code_of v xs)
    ∙ same_after (refuse 19 v (ltb (length xs) 4)) _ _ λ _ _. same_after (refuse 19 v (under 14 (word xs))) _ _ λ _ _. same_after (refuse 19 v (ltb (length xs) (word xs))) _ _ λ _ _. behind_then 4 (word xs) _
