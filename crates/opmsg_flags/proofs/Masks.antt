-- Flag words as the machine has them: the digits that two numbers have in common are those of `&`.
-- Assumes nothing.
use Prim.Native.Nat.{ℕ, zero, suc, ◌+◌, ◌/◌, ◌%◌, ◌^◌, ◌<◌}
use mathlib.Core.Path.{◌≡◌, ap}
use native.Mathlib.Nat.{mod-one, mod-eq_of_lt}
use native.Mathlib.Omega.{arith}
use lib.Bits.{bit_and, and_step}
use lib.Dec.{eqb}
use lib.Pow.{field, mod-mod-pow}
use Rattle.opmsg.specs.Flags.{common, kept, all_known}

common_and : (k a b : ℕ) → common k a b ≡ bit_and (a % 2 ^ k) b
unfolding common
common_and zero a b = rw (mod-one a)
common_and (suc k) a b =
    let e : a % 2 ^ suc k ≡ a % 2 ^ (k + 1) = ap (λ (n : ℕ). a % 2 ^ n) (omega arith) in
    let f : a % 2 ^ suc k / 2 ≡ a / 2 % 2 ^ k = rw e (field a k 1) in
    let g : a % 2 ^ suc k % 2 ≡ a % 2 = rw e (mod-mod-pow a k 1) in
    rw (and_step (a % 2 ^ suc k) b, f, g, common_and k (a / 2) (b / 2)) (omega arith)

pub kept_is : (bits flags : ℕ) → flags < 2 ^ 32 → kept bits flags ≡ bit_and flags bits
unfolding kept
kept_is bits flags h = rw (common_and 32 flags bits, mod-eq_of_lt h)

pub all_known_is : (bits flags : ℕ) → flags < 2 ^ 32 → all_known 32 bits flags ≡ eqb (bit_and flags bits) flags
unfolding all_known
all_known_is bits flags h = rw (common_and 32 flags bits, mod-eq_of_lt h)

pub required_known_is : (bits flags : ℕ) → all_known 16 bits flags ≡ all_known 32 bits (flags % 2 ^ 16)
unfolding all_known
required_known_is bits flags =
    let h : flags % 2 ^ 16 < 2 ^ 32 = omega arith in
    rw (common_and 16 flags bits, common_and 32 (flags % 2 ^ 16) bits, mod-eq_of_lt h)
