-- The laws of xor, and of one step over it.
-- Assumes nothing.
use mathlib.Core.Path.{◌≡◌, refl, sym, ap, ap₂, ◌∙◌}
use Prim.Native.Nat.{ℕ, zero, suc, ◌+◌, ◌*◌, ◌/◌, ◌%◌, ◌^◌, ◌<◌}
use native.Mathlib.Nat.{mod-lt, zero-lt-suc, le_of_suc-le-suc, not-suc-le-zero, zero-mul}
use lib.Dec.{lit<}
use lib.Arith.{bin_ind, digits_mod}
use lib.Pow.{pow_pos, split}
use lib.Bits.{bit_xor, differ, xor_step, xor_comm, xor_self, xor_zero_r, xor_shr, xor_shifted, shifted_half, shifted_even}

-- a bit is 0 or 1
data Bit : ℕ → Type 0 where
  off : Bit 0
  on : Bit 1

bit_of : (x : ℕ) → x < 2 → Bit x
bit_of zero h = off
bit_of (suc zero) h = on
bit_of (suc (suc x)) h = absurd (not-suc-le-zero (le_of_suc-le-suc (le_of_suc-le-suc h)))

low_bit : (n : ℕ) → Bit (n % 2)
low_bit n = bit_of (n % 2) (mod-lt n (zero-lt-suc 1))

differ_lt : {x y : ℕ} → Bit x → Bit y → differ x y < 2
differ_lt off off = lit< tt
differ_lt off on = lit< tt
differ_lt on off = lit< tt
differ_lt on on = lit< tt

differ_assoc : {x y z : ℕ} → Bit x → Bit y → Bit z → differ (differ x y) z ≡ differ x (differ y z)
differ_assoc off q r = refl
differ_assoc on off r = refl
differ_assoc on on off = refl
differ_assoc on on on = refl

xor_half : (a b : ℕ) → bit_xor a b / 2 ≡ bit_xor (a / 2) (b / 2)
xor_half a b = xor_shr a b 1

xor_odd : (a b : ℕ) → bit_xor a b % 2 ≡ differ (a % 2) (b % 2)
xor_odd a b = ap (λ (n : ℕ). n % 2) (xor_step a b) ∙ digits_mod (bit_xor (a / 2) (b / 2)) (differ_lt (low_bit a) (low_bit b))

pub xor_assoc : (a b c : ℕ) → bit_xor (bit_xor a b) c ≡ bit_xor a (bit_xor b c)
xor_assoc =
    bin_ind (λ (n : ℕ). (b c : ℕ) → bit_xor (bit_xor n b) c ≡ bit_xor n (bit_xor b c)) (λ b c. refl)
    (λ n ih b c.
    xor_step (bit_xor n b) c
    ∙ ap₂ (λ (p q : ℕ). p * 2 + q)
    (ap (λ (x : ℕ). bit_xor x (c / 2)) (xor_half n b) ∙ ih (b / 2) (c / 2) ∙ ap (bit_xor (n / 2)) (sym (xor_half b c)))
    (ap (λ (x : ℕ). differ x (c % 2)) (xor_odd n b) ∙ differ_assoc (low_bit n) (low_bit b) (low_bit c) ∙ ap (differ (n % 2)) (sym (xor_odd b c)))
    ∙ sym (xor_step n (bit_xor b c)))

xor_left_comm : (a b c : ℕ) → bit_xor a (bit_xor b c) ≡ bit_xor b (bit_xor a c)
xor_left_comm a b c = sym (xor_assoc a b c) ∙ ap (λ (x : ℕ). bit_xor x c) (xor_comm a b) ∙ xor_assoc b a c

xor_swap : (a b c d : ℕ) → bit_xor (bit_xor a b) (bit_xor c d) ≡ bit_xor (bit_xor a c) (bit_xor b d)
xor_swap a b c d = xor_assoc a b (bit_xor c d) ∙ ap (bit_xor a) (xor_left_comm b c d) ∙ sym (xor_assoc a c (bit_xor b d))

-- a number is the xor of its digits from the kth up and those below
pub xor_split : (c k : ℕ) → bit_xor (c / 2 ^ k * 2 ^ k) (c % 2 ^ k) ≡ c
xor_split c k = xor_shifted (c / 2 ^ k) k (c % 2 ^ k) (mod-lt c (pow_pos k)) ∙ split c k

-- ---- one step: half of a number, and p where the number is odd

-- a bit times m, of two bits that differ
differ_times : {x y : ℕ} (m : ℕ) → Bit x → Bit y → differ x y * m ≡ bit_xor (x * m) (y * m)
differ_times m off off = simp zero-mul
differ_times m off on = simp zero-mul
differ_times m on off = simp (zero-mul, xor_zero_r)
differ_times m on on = simp (zero-mul, xor_self)

pub step_linear : (p a b : ℕ) → bit_xor (bit_xor a b / 2) (bit_xor a b % 2 * p) ≡ bit_xor (bit_xor (a / 2) (a % 2 * p)) (bit_xor (b / 2) (b % 2 * p))
step_linear p a b =
    ap₂ bit_xor (xor_half a b) (ap (λ (x : ℕ). x * p) (xor_odd a b) ∙ differ_times p (low_bit a) (low_bit b))
    ∙ xor_swap (a / 2) (b / 2) (a % 2 * p) (b % 2 * p)

-- a zero falls out
pub step_even : (p a n : ℕ) → bit_xor (a * 2 ^ suc n / 2) (a * 2 ^ suc n % 2 * p) ≡ a * 2 ^ n
step_even p a n = ap₂ (λ (h o : ℕ). bit_xor h (o * p)) (shifted_half a n) (shifted_even a n) ∙ simp (zero-mul, xor_zero_r)
