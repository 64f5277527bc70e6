-- The laws of the register: a byte may be taken by its halves, and a message in parts.
-- Assumes nothing.
use mathlib.Core.Path.{◌≡◌, refl, sym, ap, ◌∙◌}
use mathlib.Core.List.{List, [], ◌∷◌, ◌++◌}
use Prim.Native.Nat.{ℕ, zero, suc, ◌+◌, ◌*◌, ◌/◌, ◌%◌, ◌^◌, ◌≤◌}
use native.Mathlib.Nat.{suc-mul}
use native.Mathlib.Omega.{arith}
use lib.ListN.{length, take, drop, length-drop, take-append-drop}
use lib.Seq.{drop-drop}
use lib.Bits.{bit_xor}
use Rattle.std.specs.List.{fold}
use Rattle.std.specs.Simd.{first_chunks}
use Rattle.crc32c_tables.specs.Steps.{shift_bits}
use Rattle.crc32c_tables.proofs.Laws.{linear, shift_add, shift_up}
use Rattle.crc32c.specs.Crc.{into_byte, register_after}
use Rattle.crc32c_tables.proofs.Xor.{xor_assoc, xor_split}

-- what a table holds: the step of the low digits alone
shift_low : (n c : ℕ) → shift_bits n c ≡ bit_xor (c / 2 ^ n) (shift_bits n (c % 2 ^ n))
shift_low n c =
    ap (shift_bits n) (sym (xor_split c n)) ∙ linear n (c / 2 ^ n * 2 ^ n) (c % 2 ^ n)
    ∙ ap (λ (x : ℕ). bit_xor x (shift_bits n (c % 2 ^ n))) (shift_up n (c / 2 ^ n))

-- a byte by its halves
pub byte_halves : (c b : ℕ) → into_byte c b
    ≡ bit_xor (bit_xor (bit_xor c b / 256) (shift_bits 4 (bit_xor c b % 256 / 16))) (shift_bits 8 (bit_xor c b % 16))
unfolding into_byte
byte_halves c b =
    let x = bit_xor c b in
    let y = x % 256 in
    let low : y % 16 ≡ x % 16 = omega arith in
    let halves : shift_bits 8 y ≡ bit_xor (shift_bits 4 (y / 16)) (shift_bits 8 (y % 16)) =
    shift_add 4 4 y ∙ ap (shift_bits 4) (shift_low 4 y) ∙ linear 4 (y / 16) (shift_bits 4 (y % 16))
    ∙ ap (bit_xor (shift_bits 4 (y / 16))) (sym (shift_add 4 4 (y % 16))) in
    shift_low 8 x ∙ ap (bit_xor (x / 256)) (halves ∙ ap (λ (n : ℕ). bit_xor (shift_bits 4 (y / 16)) (shift_bits 8 n)) low)
    ∙ sym (xor_assoc (x / 256) (shift_bits 4 (y / 16)) (shift_bits 8 (x % 16)))

-- ---- the register over a message

-- any split of the bytes gives the same
pub register_append : (c : ℕ) (a b : List ℕ) → register_after c (a ++ b) ≡ register_after (register_after c a) b
unfolding register_after
register_append c [] b = refl
register_append c (x ∷ a) b = register_append (into_byte c x) a b

-- byte by byte
pub register_fold : (c : ℕ) (s : List ℕ) → register_after c s ≡ fold into_byte c s
unfolding register_after
register_fold c [] = refl
register_fold c (b ∷ s) = register_fold (into_byte c b) s

-- k chunks of n bytes, and what is left behind them
pub register_chunks : (n k c : ℕ) (s : List ℕ) → k * n ≤ length s → register_after (fold register_after c (first_chunks n k s)) (drop (k * n) s) ≡ register_after c s
register_chunks n zero c s h = let none : 0 * n ≡ 0 = omega arith in rw none refl
register_chunks n (suc k) c s h =
    let all : suc k * n ≡ n + k * n = omega (arith, suc-mul k n) in
    rw (all, ← drop-drop (k * n) n s) (register_chunks n k (register_after c (take n s)) (drop n s) (omega (arith, length-drop n s)))
    ∙ sym (register_append c (take n s) (drop n s)) ∙ ap (register_after c) (take-append-drop n s)
