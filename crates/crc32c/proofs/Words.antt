-- The laws of words: the numbers that four and eight bytes make, the register over them, and a loop over the bytes of one.
-- Assumes nothing.
use mathlib.Core.Path.{◌≡◌, refl, sym, ap, ap₂, ◌∙◌, subst⁻¹}
use mathlib.Core.List.{List, [], ◌∷◌}
use Prim.Native.Nat.{ℕ, zero, suc, ◌+◌, ◌-◌, ◌*◌, ◌/◌, ◌%◌, ◌^◌, ◌≤◌, ◌<◌}
use native.Mathlib.Nat.{div-eq_of_lt, div-one}
use native.Mathlib.Omega.{arith}
use lib.Dec.{lit<, lit≤}
use lib.ListN.{length, take, drop, get_or, length-take, length-drop, take-append-drop}
use lib.Seq.{take_all, take-suc, take-take, length-take-le, get_or-drop}
use lib.Pow.{shr-shr}
use lib.Bits.{bit_xor, xor_comm, xor_zero_r, xor_shifted}
use Rattle.std.specs.Int.{w32, from_le_bytes}
use Rattle.crc32c_tables.specs.Steps.{shift_bits}
use Rattle.crc32c.specs.Crc.{into_byte, register_after}
use Rattle.crc32c_tables.proofs.Xor.{xor_assoc, xor_split}
use Rattle.crc32c_tables.proofs.Laws.{linear, shift_add, shift_up, shift_zero}
use Rattle.crc32c.proofs.Laws.{register_append}

-- the number whose bytes, lowest first, are s
unfoldable pub little_endian : List ℕ → ℕ
little_endian [] = 0
little_endian (b ∷ s) = little_endian s * 256 + b

-- of four bytes, it is std's
four_of : (s : List ℕ) → 4 ≤ length s → little_endian (take 4 s) ≡ from_le_bytes w32 s
unfolding little_endian
four_of s h =
    rw (take-suc s 3 0 (omega arith), take-suc s 2 0 (omega arith), take-suc s 1 0 (omega arith), take-suc s 0 0 (omega arith))
    (omega arith)

four : (s : List ℕ) → 4 ≤ length s → from_le_bytes w32 (take 4 s) ≡ little_endian (take 4 s)
four s h = sym (four_of (take 4 s) (omega (arith, length-take-le 4 s h))) ∙ ap little_endian (take-take 4 4 s (omega arith))

-- and eight are two times four
eight_of : (s : List ℕ) → 8 ≤ length s → little_endian (take 8 s) ≡ little_endian (take 4 s) + little_endian (take 4 (drop 4 s)) * 0x1_0000_0000
unfolding little_endian
eight_of [] h = absurd (omega arith)
eight_of (a ∷ []) h = absurd (omega arith)
eight_of (a ∷ b ∷ []) h = absurd (omega arith)
eight_of (a ∷ b ∷ c ∷ []) h = absurd (omega arith)
eight_of (a ∷ b ∷ c ∷ d ∷ s) h = omega arith

abbrev pub word_of : List ℕ → ℕ
word_of s = from_le_bytes w32 (take 4 s) + from_le_bytes w32 (take 4 (drop 4 s)) * 0x1_0000_0000

eight : (s : List ℕ) → 8 ≤ length s → word_of s ≡ little_endian (take 8 s)
eight s h = omega (arith, four s (omega arith), four (drop 4 s) (omega (arith, length-drop 4 s)), eight_of s h)

-- ---- the register over words

-- the bytes as one number: with the register they are shifted at once
pub register_word : (c : ℕ) (s : List ℕ) → ((i : ℕ) → get_or s i 0 < 256) → register_after c s ≡ shift_bits (8 * length s) (bit_xor c (little_endian s))
unfolding register_after into_byte little_endian shift_bits
register_word c [] h = sym (xor_zero_r c)
register_word c (b ∷ s) h =
    let n = little_endian s in
    let m = 8 * length s in
    let whole : bit_xor c (n * 256 + b) ≡ bit_xor (bit_xor c b) (n * 2 ^ 8) =
    ap (bit_xor c) (sym (xor_shifted n 8 b (h 0)) ∙ xor_comm (n * 2 ^ 8) b) ∙ sym (xor_assoc c b (n * 2 ^ 8)) in
    let eight : 8 + m ≡ 8 * suc (length s) = omega arith in
    register_word (into_byte c b) s (λ i. h (suc i))
    ∙ ap (shift_bits m) (ap (bit_xor (into_byte c b)) (sym (shift_up 8 n)) ∙ sym (linear 8 (bit_xor c b) (n * 2 ^ 8)) ∙ ap (shift_bits 8) (sym whole))
    ∙ sym (shift_add 8 m (bit_xor c (n * 256 + b))) ∙ ap (λ (k : ℕ). shift_bits k (bit_xor c (n * 256 + b))) eight

take_bytes : (n : ℕ) (s : List ℕ) → ((i : ℕ) → get_or s i 0 < 256) → (i : ℕ) → get_or (take n s) i 0 < 256
take_bytes zero s h i = lit< tt
take_bytes (suc n) [] h i = lit< tt
take_bytes (suc n) (b ∷ s) h zero = h 0
take_bytes (suc n) (b ∷ s) h (suc i) = take_bytes n s (λ j. h (suc j)) i

-- sixteen bytes as two numbers
register_words : (c : ℕ) (s : List ℕ) → length s ≡ 16 → ((i : ℕ) → get_or s i 0 < 256)
    → register_after c s ≡ bit_xor (shift_bits 64 (little_endian (take 8 (drop 8 s)))) (shift_bits 128 (bit_xor c (little_endian (take 8 s))))
register_words c s e h =
    let a = take 8 s in
    let b = drop 8 s in
    let x = bit_xor c (little_endian a) in
    let first : 8 * length a ≡ 64 = simp length-take (omega arith) in
    let second : 8 * length b ≡ 64 = simp length-drop (omega arith) in
    let whole : take 8 b ≡ b = take_all 8 b (simp length-drop (omega arith)) in
    ap (register_after c) (sym (take-append-drop 8 s)) ∙ register_append c a b
    ∙ register_word (register_after c a) b (λ i. subst⁻¹ (λ (v : ℕ). v < 256) (get_or-drop 8 s i 0) (h (8 + i)))
    ∙ ap₂ (λ (k r : ℕ). shift_bits k (bit_xor r (little_endian b))) second (register_word c a (take_bytes 8 s h) ∙ ap (λ (k : ℕ). shift_bits k x) first)
    ∙ linear 64 (shift_bits 64 x) (little_endian b)
    ∙ xor_comm (shift_bits 64 (shift_bits 64 x)) (shift_bits 64 (little_endian b))
    ∙ ap₂ bit_xor (ap (λ (l : List ℕ). shift_bits 64 (little_endian l)) (sym whole)) (sym (shift_add 64 64 x))

-- the two as std has them
pub register_sixteen : (c first second : ℕ) (s : List ℕ) → length s ≡ 16 → ((i : ℕ) → get_or s i 0 < 256) → first ≡ word_of s → second ≡ word_of (drop 8 s)
    → register_after c s ≡ bit_xor (shift_bits 64 second) (shift_bits 128 (bit_xor c first))
register_sixteen c first second s e h f g =
    let a = f ∙ eight s (omega arith) in
    let b = g ∙ eight (drop 8 s) (omega (arith, length-drop 8 s)) in
    rw (a, b) (register_words c s e h)

-- ---- a word, a byte at a time from the highest, with m more steps

-- r is, onto a, 8 (8 - k) + m steps of what x has from its byte k up
abbrev pub FromTop : ℕ → ℕ → ℕ → ℕ → ℕ → Type 0
FromTop m a x r k = (k ≤ 8) × (r ≡ bit_xor a (shift_bits (8 * (8 - k) + m) (x / 2 ^ (8 * k))))

pub top_start : (m a x : ℕ) → x < 2 ^ 64 → FromTop m a x a 8
top_start m a x h = (lit≤ tt, sym (ap (bit_xor a) (ap (shift_bits (0 + m)) (div-eq_of_lt h) ∙ shift_zero (0 + m)) ∙ xor_zero_r a))

-- one turn of a loop, from j to the byte below it: i is its place in the table, and d is what is there
pub top_turn : (m a r x d i k j : ℕ) → j ≡ suc k → i ≡ (7 - k) * 256 + x / 2 ^ (8 * k) % 256 → d ≡ shift_bits (m + 8 + 8 * (i / 256)) (i % 256)
    → FromTop m a x r j → FromTop m a x (bit_xor r d) k
top_turn m a r x d i k j ej ei ed (h, before) =
    let y = x / 2 ^ (8 * k) in
    let n = 8 * (8 - j) + m in
    let low = y % 256 in
    let steps : m + 8 + 8 * (i / 256) ≡ 8 + n = omega arith in
    let byte : i % 256 ≡ low = omega arith in
    let all : 8 + n ≡ 8 * (8 - k) + m = omega arith in
    let eight : 8 * k + 8 ≡ 8 * j = omega arith in
    let up : x / 2 ^ (8 * j) ≡ y / 256 = sym (shr-shr x (8 * k) 8 ∙ ap (λ (e : ℕ). x / 2 ^ e) eight) in
    let high : shift_bits n (x / 2 ^ (8 * j)) ≡ shift_bits (8 + n) (y / 256 * 2 ^ 8) =
    ap (shift_bits n) (up ∙ sym (shift_up 8 (y / 256))) ∙ sym (shift_add 8 n (y / 256 * 2 ^ 8)) in (
      omega arith,
      ap₂ bit_xor (before ∙ ap (bit_xor a) high) (rw (ed, steps, byte) refl) ∙ xor_assoc a (shift_bits (8 + n) (y / 256 * 2 ^ 8)) (shift_bits (8 + n) low)
          ∙ ap (bit_xor a)
          (sym (linear (8 + n) (y / 256 * 2 ^ 8) low) ∙ ap (shift_bits (8 + n)) (xor_split y 8) ∙ ap (λ (e : ℕ). shift_bits e y) all),
    )

pub top_end : (m a x r k : ℕ) → k ≤ 0 → FromTop m a x r k → r ≡ bit_xor a (shift_bits (64 + m) x)
top_end m a x r k h before =
    let none : k ≡ 0 = omega arith in
    before.1 ∙ rw (none, div-one)
