-- A search by `position`, with the length where it finds nothing; and the search for a zero byte by whole chunks.
-- Assumes nothing.
use Prim.Native.Nat.{ℕ, zero, suc, ◌+◌, ◌*◌, ◌≤◌}
use mathlib.Core.Bool.{Bool, true, false, cond, ◌||◌, false≢true}
use mathlib.Core.Path.{◌≡◌, refl, sym, ap, ◌∙◌}
use mathlib.Core.List.{List, [], ◌∷◌}
use native.Mathlib.Omega.{arith}
use native.Mathlib.Nat.{suc-mul}
use lib.ListN.{length, take, drop, length-drop}
use lib.Seq.{drop-drop}
use lib.Dec.{ltb, eqb}
use borrow.Author.Tests.{ltb-false}
use Rattle.std.specs.Prelude.{Option, Some, None}
use Rattle.std.specs.Option.{unwrap_or}
use Rattle.std.specs.Simd.{first_chunks}
use Rattle.std.specs.List.{position, position_or_len, list_any}
use Rattle.std.proofs.lemmas.List.Sums.{prefix_len-le-length}
use Rattle.wire.specs.Bytes.{until_zero}
use Rattle.wire.proofs.Bytes.{until_go, until_zero_is}

or_length : (m n : ℕ) → m ≤ n → unwrap_or (cond (ltb m n) (Some m) None) n ≡ m
or_length m n l = go (ltb m n) refl
  where
    go : (b : Bool) → ltb m n ≡ b → unwrap_or (cond (ltb m n) (Some m) None) n ≡ m
    go true e = rw e refl
    go false e = rw e (omega (arith, ltb-false m n e))

-- the first that passes a test, or the length
pub first_or_length : {X : Type 0} (p : X → Bool) (xs : List X) (r : Option ℕ) (n : ℕ) → n ≡ unwrap_or r (length xs) → r ≡ position p xs → n ≡ position_or_len p xs
first_or_length p xs r n e q = rw (e, q) (or_length (position_or_len p xs) (length xs) (prefix_len-le-length _ xs))

pub first_zero : (s : List ℕ) (r : Option ℕ) (n : ℕ) → n ≡ unwrap_or r (length s) → r ≡ position (λ x. eqb x 0) s → n ≡ until_zero s
first_zero s r n e q = first_or_length (λ x. eqb x 0) s r n e q ∙ sym (until_zero_is s)

-- ---- by chunks: those without a zero are passed

abbrev pub has_zero : List ℕ → Bool
has_zero = list_any (λ y. eqb y 0)

passes : (n : ℕ) (xs : List ℕ) → n ≤ length xs → has_zero (take n xs) ≡ false → until_zero xs ≡ n + until_zero (drop n xs)
passes zero xs l e = omega arith
passes (suc n) [] l e = omega arith
passes (suc n) (x ∷ xs) l e = go (eqb x 0) refl e (passes n xs (omega arith))
  where
    go : (b : Bool) → eqb x 0 ≡ b → (b || has_zero (take n xs)) ≡ false → (has_zero (take n xs) ≡ false → until_zero xs ≡ n + until_zero (drop n xs))
        → until_zero (x ∷ xs) ≡ suc n + until_zero (drop n xs)
    go true z h rest = absurd (false≢true (sym h))
    go false z h rest = omega (arith, until_go x xs z, rest h)

-- so many bytes stand in the chunks before the first one with a zero
abbrev pub clear : (n k : ℕ) → List ℕ → ℕ
clear n k xs = position_or_len has_zero (first_chunks n k xs) * n

abbrev pub Passed : ℕ → List ℕ → Type 0
Passed m xs = (m ≤ length xs) × (until_zero xs ≡ m + until_zero (drop m xs))

none : (n : ℕ) (xs : List ℕ) → Passed (0 * n) xs
none n xs = let z : 0 * n ≡ 0 = omega arith in rw z (omega arith, omega arith)

pub clear_passed : (n k : ℕ) (xs : List ℕ) → k * n ≤ length xs → Passed (clear n k xs) xs
clear_passed n zero xs l = none n xs
clear_passed n (suc k) xs l = go (has_zero (take n xs)) refl (clear_passed n k (drop n xs) (omega (arith, suc-mul k n, length-drop n xs)))
  where
    go : (b : Bool) → has_zero (take n xs) ≡ b → Passed (clear n k (drop n xs)) (drop n xs) → Passed (clear n (suc k) xs) xs
    go true e rest = rw e (none n xs)
    go false e rest =
        let m = clear n k (drop n xs) in
        let first : n ≤ length xs = omega (arith, suc-mul k n) in
        let turns = position_or_len has_zero (first_chunks n k (drop n xs)) in
        let sum : (1 + turns) * n ≡ n + m = omega (arith, suc-mul turns n) in
        rw (e, sum) (omega (arith, length-drop n xs), omega (arith, passes n xs first e, ap until_zero (drop-drop m n xs)))
