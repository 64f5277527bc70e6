-- A function that is linear over xor is given by its values at the powers of two: the operator. So the advance over any number of bytes is
-- thirty-two numbers, and that over twice as many is the operator of itself.
-- Assumes nothing.
use mathlib.Core.Path.{◌≡◌, refl, sym, ap, ap₂, ◌∙◌}
use mathlib.Core.Bool.{Bool, true, false}
use mathlib.Core.List.{List, [], ◌∷◌, ◌++◌, map, append-nil, append_assoc}
use Prim.Native.Nat.{ℕ, zero, suc, ◌+◌, ◌*◌, ◌/◌, ◌%◌, ◌^◌, ◌≤◌, ◌<◌}
use native.Mathlib.Nat.{add_comm, zero-add, suc-add, zero-mul, mul-zero, one-mul, mul-one, mul_assoc, add-mul, mul_comm, mul-add, pow-suc, div-add-mod'}
use native.Mathlib.Numerals.{one-add}
use native.Mathlib.Omega.{arith}
use lib.Arith.{lt-one}
use lib.Dec.{eqb}
use lib.Pow.{shl_lt, pow-lt}
use lib.Bits.{bit_xor, xor_self, xor_comm, xor_lt, xor_shifted}
use borrow.Author.Tests.{eqb-true, eqb-false}
use Rattle.crc32c_tables.specs.Steps.{shift_bit, shift_bits}
use Rattle.crc32c_tables.proofs.Laws.{linear, shift_add, shift_up}
use Rattle.crc32c_refresh.specs.Refresh.{advance}
use Rattle.crc32c_refresh.specs.Operator.{images, operator, apply, composed, turned, squaring, Operators}

-- ---- the advance

pub advance_linear : (n a b : ℕ) → advance n (bit_xor a b) ≡ bit_xor (advance n a) (advance n b)
unfolding advance
advance_linear n a b = linear (8 * n) a b

pub advance_add : (m n change : ℕ) → advance (m + n) change ≡ advance n (advance m change)
unfolding advance
advance_add m n change = ap (λ (k : ℕ). shift_bits k change) (mul-add 8 m n) ∙ shift_add (8 * m) (8 * n) change

-- the register stays within its 32 bits
shift_lt : (n c : ℕ) → c < 2 ^ 32 → shift_bits n c < 2 ^ 32
unfolding shift_bits shift_bit
shift_lt zero c h = h
shift_lt (suc n) c h = shift_lt n (shift_bit c) (xor_lt 32 (c / 2) (c % 2 * 0x82F6_3B78) (omega arith) (omega arith))

pub advance_lt : (n change : ℕ) → change < 2 ^ 32 → advance n change < 2 ^ 32
unfolding advance
advance_lt n change h = shift_lt (8 * n) change h

-- ---- operators of linear functions

abbrev Linear : (ℕ → ℕ) → Type 0
Linear f = (a b : ℕ) → f (bit_xor a b) ≡ bit_xor (f a) (f b)

linear_zero : (f : ℕ → ℕ) → Linear f → f 0 ≡ 0
linear_zero f h = h 0 0 ∙ xor_self (f 0)

linear_bit : (f : ℕ → ℕ) → Linear f → (x y : ℕ) → x < 2 → x * f y ≡ f (x * y)
linear_bit f h zero y l = simp zero-mul (sym (linear_zero f h))
linear_bit f h (suc zero) y l = simp one-mul
linear_bit f h (suc (suc x)) y l = absurd (omega arith)

-- the bit at j of a number shifted up by j, and the bits above it
bit_apart : (v j : ℕ) → bit_xor (v % 2 * 2 ^ j) (v / 2 * 2 ^ suc j) ≡ v * 2 ^ j
bit_apart v j =
    xor_comm (v % 2 * 2 ^ j) (v / 2 * 2 ^ suc j)
    ∙ xor_shifted (v / 2) (suc j) (v % 2 * 2 ^ j) (rw one-add at (shl_lt {a = v % 2} 1 j (omega arith)))
    ∙ ap (λ (p : ℕ). p + v % 2 * 2 ^ j) (ap (λ (p : ℕ). v / 2 * p) (pow-suc 2 j ∙ mul_comm (2 ^ j) 2) ∙ sym (mul_assoc (v / 2) 2 (2 ^ j)))
    ∙ sym (add-mul (v / 2 * 2) (v % 2) (2 ^ j)) ∙ ap (λ (p : ℕ). p * 2 ^ j) (div-add-mod' v 2)

images_apply : (f : ℕ → ℕ) → Linear f → (bits k v : ℕ) → v < 2 ^ bits → apply (images f bits k) v ≡ f (v * 2 ^ k)
unfolding apply images
images_apply f h zero k v l = simp (lt-one l, zero-mul) (sym (linear_zero f h))
images_apply f h (suc bits) k v l =
    ap₂ bit_xor (linear_bit f h (v % 2) (2 ^ k) (omega arith)) (images_apply f h bits (suc k) (v / 2) (omega (arith, pow-suc 2 bits)))
    ∙ sym (h (v % 2 * 2 ^ k) (v / 2 * 2 ^ suc k)) ∙ ap f (bit_apart v k)

operator_applies : (n change : ℕ) → change < 2 ^ 32 → apply (operator n) change ≡ advance n change
unfolding operator
operator_applies n change h = images_apply (advance n) (advance_linear n) 32 0 change h ∙ ap (advance n) (mul-one change)

-- an operator behind another
images_composed : (m n bits k : ℕ) → bits + k ≤ 32 → map (apply (operator m)) (images (advance n) bits k) ≡ images (advance (m + n)) bits k
unfolding images
images_composed m n zero k l = refl
images_composed m n (suc bits) k l =
    ap₂ ◌∷◌ (operator_applies m (advance n (2 ^ k)) (advance_lt n (2 ^ k) (pow-lt {j = 32} (omega arith))) ∙ sym (advance_add n m (2 ^ k)) ∙ ap (λ (b : ℕ). advance b (2 ^ k)) (omega arith))
    (images_composed m n bits (suc k) (omega arith))

operator_composes : (m n : ℕ) → composed (operator m) (operator n) ≡ operator (m + n)
unfolding composed operator
operator_composes m n = images_composed m n 32 0 (omega arith)

-- ---- an operator from its last number

-- one step more, of a number that is one place higher
step_down : (n e : ℕ) → shift_bit (shift_bits n (2 ^ suc e)) ≡ shift_bits n (2 ^ e)
unfolding shift_bits
step_down n e =
    sym (shift_add n 1 (2 ^ suc e)) ∙ ap (λ (k : ℕ). shift_bits k (2 ^ suc e)) (add_comm n 1) ∙ shift_add 1 n (2 ^ suc e)
    ∙ ap (shift_bits n) (ap (shift_bits 1) (pow-suc 2 e) ∙ shift_up 1 (2 ^ e))

images_last : (f : ℕ → ℕ) (bits k : ℕ) → images f (suc bits) k ≡ images f bits k ++ (f (2 ^ (bits + k)) ∷ [])
unfolding images
images_last f zero k = rw zero-add
images_last f (suc bits) k = ap (λ (l : List ℕ). f (2 ^ k) ∷ l) (images_last f bits (suc k) ∙ ap (λ (e : ℕ). images f bits (suc k) ++ (f (2 ^ e) ∷ [])) (omega arith))

-- each number is the step of the next one
abbrev pub falling : (bits from : ℕ) → List ℕ → List ℕ
falling zero x l = l
falling (suc bits) x l =
    let y = shift_bit x in
    falling bits y (y ∷ l)

falls : (n bits k : ℕ) (l : List ℕ) → falling bits (shift_bits n (2 ^ (bits + k))) l ≡ images (shift_bits n) bits k ++ l
unfolding images
falls n zero k l = refl
falls n (suc bits) k l =
    let y = shift_bits n (2 ^ (bits + k)) in
    let step : shift_bit (shift_bits n (2 ^ (suc bits + k))) ≡ y = rw suc-add (step_down n (bits + k)) in
    ap (λ (x : ℕ). falling bits x (x ∷ l)) step ∙ falls n bits k (y ∷ l)
    ∙ sym (ap (λ (m : List ℕ). m ++ l) (images_last (shift_bits n) bits k) ∙ append_assoc (images (shift_bits n) bits k) (y ∷ []) l)

pub operator_falls : (n : ℕ) → falling 32 (advance n (2 ^ 32)) [] ≡ operator n
unfolding advance operator
operator_falls n = falls (8 * n) 32 0 [] ∙ append-nil (images (shift_bits (8 * n)) 32 0)

-- ---- by repeated squaring

doubled : (j q : ℕ) → (j + j) * q ≡ j * (q * 2)
doubled j q = add-mul j j q ∙ sym (ap (λ (k : ℕ). j * k) (omega arith) ∙ mul-add j q q)

turned_lt : (j change : ℕ) (b : Bool) → change < 2 ^ 32 → turned (operator j) b change < 2 ^ 32
turned_lt j change true h = rw (operator_applies j change h) (advance_lt j change h)
turned_lt j change false h = h

-- one turn: half as many steps of twice as many bytes are left
turn : (j n change : ℕ) (b : Bool) → eqb (n % 2) 1 ≡ b → change < 2 ^ 32 → advance ((j + j) * (n / 2)) (turned (operator j) b change) ≡ advance (j * n) change
turn j n change true e h =
    let q = n / 2 in
    let odd : n ≡ 1 + q * 2 = omega (arith, eqb-true (n % 2) 1 e) in
    ap (advance ((j + j) * q)) (operator_applies j change h) ∙ sym (advance_add j ((j + j) * q) change)
    ∙ ap (λ (k : ℕ). advance k change) (sym (ap (λ (k : ℕ). j * k) odd ∙ mul-add j 1 (q * 2) ∙ ap₂ ◌+◌ (mul-one j) (sym (doubled j q))))
turn j n change false e h =
    let q = n / 2 in
    let even : n ≡ q * 2 = omega (arith, eqb-false (n % 2) 1 e) in
    ap (λ (k : ℕ). advance k change) (doubled j q ∙ ap (λ (k : ℕ). j * k) (sym even))

-- no turn left
turned_all : (j change : ℕ) → advance (j * 0) change ≡ change
turned_all j change = rw (mul-zero j) (unfold advance shift_bits in refl)

squaring_law : (turns j n change : ℕ) → n < 2 ^ turns → change < 2 ^ 32 → squaring turns (operator j) n change ≡ advance (j * n) change
unfolding squaring
squaring_law zero j n change l h = sym (ap (λ (k : ℕ). advance (j * k) change) (lt-one l) ∙ turned_all j change)
squaring_law (suc turns) j n change l h =
    let b = eqb (n % 2) 1 in
    ap (λ (m : List ℕ). squaring turns m (n / 2) (turned (operator j) b change)) (operator_composes j j)
    ∙ squaring_law turns (j + j) (n / 2) (turned (operator j) b change) (omega (arith, l, pow-suc 2 turns)) (turned_lt j change b h) ∙ turn j n change b refl h

pub operators : Operators
operators = record {
  applies = operator_applies;
  composes = operator_composes;
  squares = squaring_law;
}
