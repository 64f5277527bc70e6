-- Laws of decimal digits: those that `io` spells are the definition's, and a 64-bit number has at most 20.
-- Assumes nothing.
use Prim.Native.Nat.{ℕ, zero, suc, ◌-◌, ◌/◌, ◌%◌, ◌^◌, ◌≤◌, ◌<◌}
use mathlib.Core.Bool.{Bool, true, false}
use mathlib.Core.Path.{◌≡◌, refl}
use Rattle.std.proofs.Common.{if◌then◌else◌}
use mathlib.Core.List.{◌∷◌}
use native.Mathlib.Omega.{arith, pow_step}
use native.Mathlib.Nat.{mod-eq_of_lt, one-le-pow, pow-le-pow_right}
use lib.IntN.{ℤ, pos, negsuc, nat_abs}
use lib.Signed.{lt_z}
use lib.Dec.{ltb}
use borrow.Author.Tests.{lt-ltb, le-ltb, ltb-true, ltb-false}
use Rattle.io.specs.Digits.{IsDigitCount, last_digits as spelled}
use Rattle.listing_lines.specs.Decimal.{digits, decimal, signed_decimal}

below_pow : (j : ℕ) → j < 10 ^ j
below_pow zero = omega arith
below_pow (suc j) = omega (arith, below_pow j, pow_step 10 j)

spelled_digits : (j most n : ℕ) → j < most → n < 10 ^ suc j → (1 < suc j → 10 ^ j ≤ n) → spelled 10 (suc j) n ≡ digits most n
unfolding digits
spelled_digits j zero n l h f = absurd (omega arith)
spelled_digits zero (suc most) n l h f =
    let a : n < 10 = omega arith in
    rw (mod-eq_of_lt a, digits, lt-ltb n 10 a)
spelled_digits (suc j) (suc most) n l h f =
    let p : 10 ^ suc j ≤ n = f (omega arith) in
    let a : 10 ≤ n = omega (arith, pow_step 10 j, one-le-pow j 10 (omega arith)) in
    let b : n % 10 < 10 = omega arith in
    let ih = spelled_digits j most (n / 10) (omega arith) (omega (arith, pow_step 10 (suc j))) (λ _. omega (arith, pow_step 10 j)) in
    rw (digits, le-ltb n 10 a, ← ih, lt-ltb (n % 10) 10 b)

-- the fewest digits that hold n
pub spelled_decimal : (k n : ℕ) → IsDigitCount 10 1 n k → spelled 10 k n ≡ decimal n
unfolding decimal
spelled_decimal zero n f = absurd (omega (arith, f.0))
spelled_decimal (suc j) n f =
    let e : suc j - 1 ≡ j = omega arith in
    let least : 1 < suc j → 10 ^ j ≤ n = rw e at f.2 in
    spelled_digits j (suc n) n (few j least) f.1 least
  where
    few : (j : ℕ) → (1 < suc j → 10 ^ j ≤ n) → j < suc n
    few zero h = omega arith
    few (suc j) h = omega (arith, below_pow (suc j), h (omega arith))

-- a 64-bit number
pub few_digits : (k n : ℕ) → IsDigitCount 10 1 n k → n < 2 ^ 64 → k ≤ 20
few_digits k n f h = go (ltb 20 k) refl
  where
    go : (b : Bool) → ltb 20 k ≡ b → k ≤ 20
    go true e =
        let l : 20 < k = ltb-true 20 k e in
        absurd (omega (arith, f.2 (omega arith), pow-le-pow_right {n = 10} (omega arith) {i = 20} {j = k - 1} (omega arith)))
    go false e = ltb-false 20 k e

-- a signed number, by its sign and its size
pub signed_parts : (x : ℤ) → signed_decimal x ≡ (if lt_z x (pos 0) then 45 ∷ decimal (nat_abs x) else decimal (nat_abs x))
unfolding signed_decimal
signed_parts (pos n) = rw (le-ltb n 0 (omega arith)) refl
signed_parts (negsuc n) = refl
