-- Laws of sets of flag bits: bit by bit, and what is left of a flag word kept to several of them.
-- Assumes nothing.
use Prim.Native.Nat.{ℕ, zero, suc, ◌+◌, ◌*◌, ◌/◌, ◌%◌, ◌^◌, ◌<◌, ◌≤◌, min}
use mathlib.Core.Bool.{Bool, true, false, not, ◌&&◌}
use mathlib.Core.Path.{◌≡◌, refl, sym, ap, ◌∙◌}
use native.Mathlib.Omega.{arith}
use native.Mathlib.Nat.{mod-one, mod-eq_of_lt, div-one}
use native.Mathlib.Numerals.{add-one, one-add}
use lib.Dec.{T, eqb, eqb→eq}
use lib.Pow.{mod-pow-add, shr-shr}
use mir.Facts.{yes_and}
use borrow.Author.Tests.{eqb-true, eqb-false, eq-eqb, not-false}
use Rattle.opmsg.specs.Flags.{bit, common, kept, all_known, checksummed}

low : (k a b : ℕ) → common (suc k) a b % 2 ≡ min (a % 2) (b % 2)
unfolding common
low k a b = omega arith

high : (k a b : ℕ) → common (suc k) a b / 2 ≡ common k (a / 2) (b / 2)
unfolding common
high k a b = omega arith

pub common_lt : (k a b : ℕ) → common k a b < 2 ^ k
unfolding common
common_lt zero a b = omega arith
common_lt (suc k) a b = omega (arith, common_lt k (a / 2) (b / 2))

pub common_comm : (k a b : ℕ) → common k a b ≡ common k b a
unfolding common
common_comm zero a b = refl
common_comm (suc k) a b = omega (arith, common_comm k (a / 2) (b / 2))

step : (k a b : ℕ) → common (suc k) a b ≡ min (a % 2) (b % 2) + 2 * common k (a / 2) (b / 2)
unfolding common
step k a b = refl

steps : (k f a b : ℕ) → common (suc k) (common (suc k) f a) b ≡ min (min (f % 2) (a % 2)) (b % 2) + 2 * common k (common k (f / 2) (a / 2)) (b / 2)
steps k f a b = rw (step k (common (suc k) f a) b, low k f a, high k f a)

pub common_swap : (k f a b : ℕ) → common k (common k f a) b ≡ common k (common k f b) a
common_swap zero f a b = unfold common in refl
common_swap (suc k) f a b = rw (steps k f a b, steps k f b a) (omega (arith, common_swap k (f / 2) (a / 2) (b / 2)))

-- each of the low k bits of a is one of b's
abbrev pub Known : ℕ → ℕ → ℕ → Type 0
Known zero a b = Unit {0}
Known (suc k) a b = (a % 2 ≤ b % 2) × Known k (a / 2) (b / 2)

-- a set has its own bits
pub known_self : (k a : ℕ) → Known k a a
known_self zero a = tt
known_self (suc k) a = (omega arith, known_self k (a / 2))

mod_step : (k f : ℕ) → f % 2 ^ suc k ≡ f % 2 + 2 * (f / 2 % 2 ^ k)
mod_step k f = omega (arith, rw add-one at (mod-pow-add f k 1))

known_of : (k f b : ℕ) → common k f b ≡ f % 2 ^ k → Known k f b
known_of zero f b h = tt
known_of (suc k) f b h =
    let e = rw (step k f b, mod_step k f) at h in
    (omega arith, known_of k (f / 2) (b / 2) (omega arith))

pub of_known : (k f b : ℕ) → Known k f b → common k f b ≡ f % 2 ^ k
of_known zero f b h = unfold common in sym (mod-one f)
of_known (suc k) f b h = rw (step k f b, mod_step k f) (omega (arith, h.0, of_known k (f / 2) (b / 2) h.1))

pub all_known_known : (k bits flags : ℕ) → not (all_known k bits flags) ≡ false → Known k flags bits
unfolding all_known
all_known_known k bits flags h = known_of k flags bits (eqb-true _ _ (not-false _ h))

pub known_all_known : (k bits flags : ℕ) → Known k flags bits → not (all_known k bits flags) ≡ false
unfolding all_known
known_all_known k bits flags h = ap not (eq-eqb _ _ (of_known k flags bits h))

-- what stands in both is known where the first is
known_zero : (k b : ℕ) → Known k 0 b
known_zero zero b = tt
known_zero (suc k) b = (omega arith, known_zero k (b / 2))

pub known_common : (k l f a b : ℕ) → Known k f b → Known k (common l f a) b
known_common zero l f a b h = tt
known_common (suc k) zero f a b h = unfold common in known_zero (suc k) b
known_common (suc k) (suc l) f a b h =
    rw (low l f a, high l f a) ((omega (arith, h.0), known_common k l (f / 2) (a / 2) (b / 2) h.1))

-- of two sets one within the other, the larger clears nothing that the smaller leaves
pub common_within : (k f a b : ℕ) → Known k b a → common k (common k f a) b ≡ common k f b
common_within zero f a b h = unfold common in refl
common_within (suc k) f a b h = rw (steps k f a b, step k f b) (omega (arith, h.0, common_within k (f / 2) (a / 2) (b / 2) h.1))

-- bit by bit
bit_zero : (a : ℕ) → bit 0 a ≡ eqb (a % 2) 1
unfolding bit
bit_zero a = rw div-one

bit_half : (i a : ℕ) → bit i (a / 2) ≡ bit (suc i) a
unfolding bit
bit_half i a = ap (λ (n : ℕ). eqb (n % 2) 1) (rw one-add at (shr-shr a 1 i))

low_bit : (a b : ℕ) → (T (eqb (a % 2) 1) → T (eqb (b % 2) 1)) → a % 2 ≤ b % 2
low_bit a b h = go (eqb (a % 2) 1) refl
  where
    go : (t : Bool) → eqb (a % 2) 1 ≡ t → a % 2 ≤ b % 2
    go true e = omega (arith, eqb→eq (b % 2) 1 (h (rw e tt)))
    go false e = omega (arith, eqb-false (a % 2) 1 e)

pub bits_known : (k a b : ℕ) → ((i : ℕ) → i < k → T (bit i a) → T (bit i b)) → Known k a b
bits_known zero a b h = tt
bits_known (suc k) a b h = (
  low_bit a b (rw (bit_zero a, bit_zero b) at (h 0 (omega arith))),
  bits_known k (a / 2) (b / 2) (λ i l. rw (bit_half i a, bit_half i b) (h (suc i) (omega arith))),
)

known_low : (a b : ℕ) → a % 2 ≤ b % 2 → T (eqb (a % 2) 1) → T (eqb (b % 2) 1)
known_low a b h t = rw (eq-eqb (b % 2) 1 (omega (arith, eqb→eq (a % 2) 1 t))) tt

pub known_bits : (k a b : ℕ) → Known k a b → (i : ℕ) → i < k → T (bit i a) → T (bit i b)
known_bits zero a b h i l = absurd (omega arith)
known_bits (suc k) a b h zero l = rw (bit_zero a, bit_zero b) (known_low a b h.0)
known_bits (suc k) a b h (suc i) l = rw (← bit_half i a, ← bit_half i b) (known_bits k (a / 2) (b / 2) h.1 i (omega arith))

-- the bits that two sets both have
min_bits : (x y : ℕ) → x < 2 → y < 2 → eqb (min x y) 1 ≡ eqb x 1 && eqb y 1
min_bits zero y h k = let e : min 0 y ≡ 0 = omega arith in rw e
min_bits (suc zero) zero h k = refl
min_bits (suc zero) (suc zero) h k = refl
min_bits (suc zero) (suc (suc y)) h k = absurd (omega arith)
min_bits (suc (suc x)) y h k = absurd (omega arith)

pub common_bit : (k a b i : ℕ) → i < k → bit i (common k a b) ≡ bit i a && bit i b
common_bit zero a b i l = absurd (omega arith)
common_bit (suc k) a b zero l = rw (bit_zero (common (suc k) a b), bit_zero a, bit_zero b, low k a b) (min_bits (a % 2) (b % 2) (omega arith) (omega arith))
common_bit (suc k) a b (suc i) l =
    rw (← bit_half i (common (suc k) a b), ← bit_half i a, ← bit_half i b, high k a b) (common_bit k (a / 2) (b / 2) i (omega arith))

-- keeping to known bits
pub kept_swap : (a b f : ℕ) → kept b (kept a f) ≡ kept a (kept b f)
unfolding kept
kept_swap a b f = common_swap 32 f a b

pub kept_lt : (a f : ℕ) → kept a f < 2 ^ 32
unfolding kept
kept_lt a f = common_lt 32 f a

-- a flag word whose bits are all known stays as it is
pub kept_all : (a f : ℕ) → Known 32 f a → f < 2 ^ 32 → kept a f ≡ f
unfolding kept
kept_all a f h l = of_known 32 f a h ∙ mod-eq_of_lt l

pub kept_within : (a b f : ℕ) → Known 32 b a → kept b (kept a f) ≡ kept b f
unfolding kept
kept_within a b f h = common_within 32 f a b h

-- to the same bits by two numbers, and to the bits that two sets both have
pub kept_same : (a b f : ℕ) → Known 32 a b → Known 32 b a → kept a f ≡ kept b f
kept_same a b f h k = sym (kept_within b a f h) ∙ sym (kept_swap a b f) ∙ kept_within a b f k

pub kept_both : (a b f : ℕ) → kept b (kept a f) ≡ kept (common 32 a b) f
unfolding kept
kept_both a b f = ap (λ (n : ℕ). common 32 n b) (common_comm 32 f a) ∙ common_swap 32 a f b ∙ common_comm 32 (common 32 a b) f

pub kept_known : (k a b f : ℕ) → Known k f b → Known k (kept a f) b
unfolding kept
kept_known k a b f h = known_common k 32 f a b h

pub kept_known' : (k a b f : ℕ) → Known k a b → Known k (kept a f) b
unfolding kept
kept_known' k a b f h = rw (common_comm 32 f a) (known_common k 32 a f b h)

-- known bits are not cleared: who knows those that are left knows them
pub known_kept : (k a f b : ℕ) → k ≤ 32 → Known k f a → Known k (kept a f) b → Known k f b
unfolding kept
known_kept k a f b l h g =
    bits_known k f b λ i j t. known_bits k (common 32 f a) b g i j (rw (common_bit 32 f a i (omega arith)) (yes_and (bit i f) (bit i a) t (known_bits k f a h i j t)))

pub kept_bit0 : (a f : ℕ) → Known 16 f a → checksummed (kept a f) ≡ checksummed f
unfolding kept checksummed
kept_bit0 a f h = let e : common 32 f a % 2 ≡ f % 2 = omega (arith, h.0, low 31 f a) in rw e
