-- Bits of a word that stay when more are set.
-- Assumes nothing.
use Prim.Native.Nat.{ℕ, zero, suc, ◌+◌, ◌*◌, ◌/◌, ◌%◌, ◌≤◌, ◌<◌, min, max}
use mathlib.Core.Path.{◌≡◌, sym, ◌∙◌}
use native.Mathlib.Omega.{arith}
use lib.Bits.{bit_and, bit_or, and_step, or_step, and_zero_r, and_self, or_comm}

halves : (x n d : ℕ) → n * 2 + d ≡ x → d < 2 → (n ≡ x / 2) × (d ≡ x % 2)
halves x n d e h = (omega arith, omega arith)

digit : (a m x : ℕ) → min (a % 2) (x % 2) ≡ x % 2 → min (max (a % 2) (m % 2)) (x % 2) ≡ x % 2
digit a m x h = omega arith

holds : (k a m x : ℕ) → x ≤ k → bit_and a x ≡ x → bit_and (bit_or a m) x ≡ x
holds zero a m x l h = let z : x ≡ 0 = omega arith in rw (z, and_zero_r (bit_or a m))
holds (suc k) a m x l h =
    let p = halves x (bit_and (a / 2) (x / 2)) (min (a % 2) (x % 2)) (sym (and_step a x) ∙ h) (omega arith) in
    let o = halves (bit_or a m) (bit_or (a / 2) (m / 2)) (max (a % 2) (m % 2)) (sym (or_step a m)) (omega arith) in
    and_step (bit_or a m) x ∙ rw (← o.0, ← o.1, holds k (a / 2) (m / 2) (x / 2) (omega arith) p.0, digit a m x p.1) (omega arith)

-- a word with the bits x has them when those of m are set
pub holds_more : (a m x : ℕ) → bit_and a x ≡ x → bit_and (bit_or a m) x ≡ x
holds_more a m x h = holds x a m x (omega arith) h

-- and it has those of m
pub holds_self : (a m : ℕ) → bit_and (bit_or a m) m ≡ m
holds_self a m = rw (or_comm a m) (holds_more m a m (and_self m))
