-- The laws of the register's steps: each is linear over xor, so steps may be taken of a number's parts apart.
-- Assumes nothing.
use mathlib.Core.Path.{◌≡◌, refl, ap, ◌∙◌}
use Prim.Native.Nat.{ℕ, zero, suc, ◌+◌, ◌*◌, ◌^◌}
use native.Mathlib.Nat.{suc-add, zero-add, zero-mul, mul-one}
use lib.Bits.{bit_xor}
use Rattle.crc32c_tables.specs.Steps.{shift_bit, shift_bits}
use Rattle.crc32c_tables.proofs.Xor.{step_linear, step_even}

pub linear : (n a b : ℕ) → shift_bits n (bit_xor a b) ≡ bit_xor (shift_bits n a) (shift_bits n b)
unfolding shift_bits shift_bit
linear zero a b = refl
linear (suc n) a b = ap (shift_bits n) (step_linear _ a b) ∙ linear n (shift_bit a) (shift_bit b)

pub shift_add : (m n c : ℕ) → shift_bits (m + n) c ≡ shift_bits n (shift_bits m c)
unfolding shift_bits
shift_add zero n c = ap (λ (k : ℕ). shift_bits k c) (zero-add n)
shift_add (suc m) n c = ap (λ (k : ℕ). shift_bits k c) (suc-add m n) ∙ shift_add m n (shift_bit c)

-- zeros that stand below a number fall out, and leave the number
pub shift_up : (n a : ℕ) → shift_bits n (a * 2 ^ n) ≡ a
unfolding shift_bits shift_bit
shift_up zero a = mul-one a
shift_up (suc n) a = ap (shift_bits n) (step_even _ a n) ∙ shift_up n a

pub shift_zero : (n : ℕ) → shift_bits n 0 ≡ 0
shift_zero n = simp zero-mul at (shift_up n 0)
