-- Laws of characters of one byte: a run of them by its parts, and bytes looked at together, four in a word or more by `|`.
-- Assumes nothing.
use Prim.Native.Nat.{ℕ, zero, suc, ◌+◌, ◌-◌, ◌*◌, ◌/◌, ◌%◌, ◌^◌, ◌≤◌, ◌<◌}
use mathlib.Core.Path.{◌≡◌, refl, sym, ap, ◌∙◌}
use mathlib.Core.List.{List, [], ◌∷◌}
use native.Mathlib.Omega.{arith}
use native.Mathlib.Nat.{mod-eq_of_lt, suc-mul}
use native.Mathlib.Numerals.{add-one}
use lib.ListN.{length, get_or, take, drop, length-drop}
use lib.Seq.{get_or-take, drop-drop}
use lib.Bits.{bit_and, bit_or, and_block, and_high, and_le_l, and_le_r, or_add_and}
use borrow.Author.Count.{below_none, below_more}
use borrow.Author.Tests.{ne_eqb}
use Rattle.std.specs.Prelude.{Option, Some, None}
use Rattle.std.specs.Option.{MatchOption, unwrap_or}
use Rattle.std.specs.List.{AllWithin, HoldsAt, fold}
use Rattle.std.specs.Int.{w64, from_le_bytes}
use Rattle.std.specs.Simd.{first_chunks}
use Rattle.wire.specs.Bytes.{Bytes, word, until_zero}
use Rattle.wire.proofs.Bytes.{past_byte}
use Rattle.wire.proofs.Parts.{rest_part}
use Rattle.utf8_ascii.specs.Inner.{Ascii, AllPlain, PlainRun}

-- a run and another behind it, which is found in the part `&xs[m..]`
ascii_then : (m n : ℕ) (xs : List ℕ) → Ascii m xs → Ascii n (drop m xs) → Ascii (m + n) xs
ascii_then zero n xs a b i h = b i (omega arith)
ascii_then (suc m) n [] a b i h = omega arith
ascii_then (suc m) n (x ∷ xs) a b zero h = a 0 (omega arith)
ascii_then (suc m) n (x ∷ xs) a b (suc i) h = ascii_then m n xs (λ j l. a (suc j) (omega arith)) b i (omega arith)

pub ascii_part : (m n : ℕ) (xs : List ℕ) → Ascii m xs → Ascii n (take (length xs - m) (drop m xs)) → Ascii (m + n) xs
ascii_part m n xs a b = ascii_then m n xs a (rw rest_part at b)

-- the first byte alone
pub ascii_one : (xs : List ℕ) → get_or xs 0 0 < 0x80 → Ascii 1 xs
ascii_one xs h = below_more (λ i. get_or xs i 0 < 0x80) 0 (below_none _) h

-- a run in the front `&xs[..m]`
pub ascii_front : (m n : ℕ) (xs : List ℕ) → n ≤ m → Ascii n (take m xs) → Ascii n xs
ascii_front m n xs l a i h = let k : i < m = omega arith in rw get_or-take at (a i h)

-- ---- by chunks of n bytes: those before the first with another byte in it

-- where `position` found none or the m-th, the m chunks before it have none
pub before_it : {X : Type 0} (P Q : X → Type 0) (xs : List X) (r : Option ℕ) (m : ℕ) → m ≡ unwrap_or r (length xs)
    → MatchOption r (AllWithin P xs 0 (length xs)) (λ i. (i < length xs) × HoldsAt Q xs i × AllWithin P xs 0 i) → (m ≤ length xs) × AllWithin P xs 0 m
before_it P Q xs None m e h = rw e (omega arith, h)
before_it P Q xs (Some i) m e h = rw e (omega (arith, h.0), h.2)

chunks_ascii : (n k m : ℕ) (xs : List ℕ) → m ≤ k → AllWithin (Ascii n) (first_chunks n k xs) 0 m → Ascii (m * n) xs
chunks_ascii n k zero xs l h = λ i j. absurd (omega arith)
chunks_ascii n zero (suc m) xs l h = absurd (omega arith)
chunks_ascii n (suc k) (suc m) xs l h =
    let first : Ascii n xs = ascii_front n n xs (omega arith) (h 0 [] (omega arith) (omega arith)) in
    let rest : Ascii (m * n) (drop n xs) = chunks_ascii n k m (drop n xs) (omega arith) (λ i d a b. h (suc i) d (omega arith) (omega arith)) in
    let sum : suc m * n ≡ n + m * n = omega (arith, suc-mul m n) in
    rw sum (ascii_then n (m * n) xs first rest)

length_chunks : (n k : ℕ) (xs : List ℕ) → length (first_chunks n k xs) ≡ k
length_chunks n zero xs = refl
length_chunks n (suc k) xs = ap suc (length_chunks n k (drop n xs))

pub ascii_chunks : (Q : List ℕ → Type 0) (n k : ℕ) (xs : List ℕ) (cs : List (List ℕ)) (r : Option ℕ) (m : ℕ) → cs ≡ first_chunks n k xs → m ≡ unwrap_or r (length cs)
    → MatchOption r (AllWithin (Ascii n) cs 0 (length cs)) (λ i. (i < length cs) × HoldsAt Q cs i × AllWithin (Ascii n) cs 0 i) → Ascii (m * n) xs
ascii_chunks Q n k xs cs r m c e h =
    let b = before_it (Ascii n) Q cs r m e h in
    chunks_ascii n k m xs (omega (arith, ap length c, length_chunks n k xs)) (rw c at b.1)

-- ---- a run of them before the first zero

abbrev pub PlainAt : (i : ℕ) → List ℕ → Type 0
PlainAt i xs = (0 < get_or xs i 0) × (get_or xs i 0 < 0x80)

pub plain_none : (xs : List ℕ) → PlainRun 0 xs
plain_none xs = (below_none _, omega arith)

module _ (xs : List ℕ) (i : ℕ) (run : PlainRun i xs) where
  pub plain_one : i < length xs → PlainAt i xs → PlainRun (i + 1) xs
  plain_one h a =
      let past = past_byte xs i h (ne_eqb (get_or xs i 0) 0 (λ e. omega arith)) in
      (below_more (λ j. get_or xs j 0 < 0x80) i run.0 a.1, omega arith)

pub plain_all : (m : ℕ) (xs : List ℕ) → m ≤ length xs → ((i : ℕ) → i < m → PlainAt i xs) → PlainRun m xs
plain_all zero xs l h = plain_none xs
plain_all (suc m) xs l h = rw (← add-one m) (plain_one xs m (plain_all m xs (omega arith) (λ i a. h i (omega arith))) (omega arith) (h m (omega arith)))

-- and a run behind it
pub plain_then : (m n : ℕ) (xs : List ℕ) → PlainRun m xs → PlainRun n (drop m xs) → PlainRun (m + n) xs
plain_then m n xs p q = (ascii_then m n xs p.0 q.0, omega (arith, length-drop m xs, ap until_zero (drop-drop n m xs)))

-- bytes taken together: none is above what they make
pub above_all : (xs : List ℕ) (a i : ℕ) → (a ≤ fold bit_or a xs) × (get_or xs i 0 ≤ fold bit_or a xs)
above_all [] a i = (omega arith, omega arith)
above_all (x ∷ xs) a zero = omega (arith, above_all xs (bit_or a x) 0, or_add_and a x, and_le_l a x, and_le_r a x)
above_all (x ∷ xs) a (suc i) = omega (arith, above_all xs (bit_or a x) i, or_add_and a x, and_le_r a x)

-- a byte without its highest bit
high_bit : (a : ℕ) → a < 0x100 → bit_and a 0x80 ≡ 0 → a < 0x80
high_bit a h e =
    let bit : bit_and a 0x80 ≡ a / 0x80 % 2 * 0x80 = and_high a 1 7 in
    let digit : a / 0x80 % 2 ≡ a / 0x80 = mod-eq_of_lt (omega arith) in
    omega arith

-- the lowest byte of a number, and the rest of it
low_byte : (a m s : ℕ) → a < 0x100 → bit_and (m * 0x100 + a) (s * 0x100 + 0x80) ≡ 0 → (a < 0x80) × (bit_and m s ≡ 0)
low_byte a m s h e =
    let both : bit_and m s * 0x100 + bit_and a 0x80 ≡ 0 = sym (and_block 8 m s a 0x80 h (omega arith)) ∙ e in
    (high_bit a h (omega arith), omega arith)

nested : (a b c d e f g h : ℕ) → a + b * 256 ^ 1 + c * 256 ^ 2 + d * 256 ^ 3 + e * 256 ^ 4 + f * 256 ^ 5 + g * 256 ^ 6 + h * 256 ^ 7
    ≡ ((((((h * 0x100 + g) * 0x100 + f) * 0x100 + e) * 0x100 + d) * 0x100 + c) * 0x100 + b) * 0x100 + a
nested a b c d e f g h = omega arith

pub eight_ascii : (xs : List ℕ) (n : ℕ) → Bytes xs → n ≡ from_le_bytes w64 xs → bit_and n 0x8080_8080_8080_8080 ≡ 0 → Ascii 8 xs
eight_ascii xs n bytes is z =
    let x = λ (i : ℕ). get_or xs i 0 in
    let p = low_byte (x 0) _ 0x80_8080_8080_8080 (bytes 0) (rw (is, nested (x 0) (x 1) (x 2) (x 3) (x 4) (x 5) (x 6) (x 7)) at z) in
    let q = low_byte (x 1) _ 0x8080_8080_8080 (bytes 1) p.1 in
    let r = low_byte (x 2) _ 0x80_8080_8080 (bytes 2) q.1 in
    let s = low_byte (x 3) _ 0x8080_8080 (bytes 3) r.1 in
    let t = low_byte (x 4) _ 0x80_8080 (bytes 4) s.1 in
    let u = low_byte (x 5) _ 0x8080 (bytes 5) t.1 in
    let v = low_byte (x 6) _ 0x80 (bytes 6) u.1 in
    let more = below_more (λ i. get_or xs i 0 < 0x80) in
    more 7 (more 6 (more 5 (more 4 (more 3 (more 2 (more 1 (more 0 (below_none _) p.0) q.0) r.0) s.0) t.0) u.0) v.0) (high_bit (x 7) (bytes 7) v.1)

four_bytes : (a b c d : ℕ) → a < 0x100 → b < 0x100 → c < 0x100 → d < 0x100 → bit_and (a + 0x100 * b + 0x1_0000 * c + 0x100_0000 * d) 0x8080_8080 ≡ 0
    → (a < 0x80) × (b < 0x80) × (c < 0x80) × (d < 0x80)
four_bytes a b c d ha hb hc hd e =
    let w : a + 0x100 * b + 0x1_0000 * c + 0x100_0000 * d ≡ ((d * 0x100 + c) * 0x100 + b) * 0x100 + a = omega arith in
    let p = low_byte a ((d * 0x100 + c) * 0x100 + b) 0x80_8080 ha (rw w at e) in
    let q = low_byte b (d * 0x100 + c) 0x8080 hb p.1 in
    let r = low_byte c d 0x80 hc q.1 in
    (p.0, q.0, r.0, high_bit d hd r.1)

pub four_ascii : (xs : List ℕ) → Bytes xs → bit_and (word xs) 0x8080_8080 ≡ 0 → Ascii 4 xs
unfolding word
four_ascii xs b e =
    let p = four_bytes (get_or xs 0 0) (get_or xs 1 0) (get_or xs 2 0) (get_or xs 3 0) (b 0) (b 1) (b 2) (b 3) e in
    let more = below_more (λ i. get_or xs i 0 < 0x80) in
    more 3 (more 2 (more 1 (more 0 (below_none _) p.0) p.1) p.2) p.3

-- ---- the bytes of one chunk

chunk_at : (n k i : ℕ) (xs d : List ℕ) → i < k → get_or (first_chunks n k xs) i d ≡ take n (drop (i * n) xs)
chunk_at n zero i xs d h = absurd (omega arith)
chunk_at n (suc k) zero xs d h = let none : 0 * n ≡ 0 = omega arith in rw none refl
chunk_at n (suc k) (suc i) xs d h =
    let sum : suc i * n ≡ n + i * n = omega (arith, suc-mul i n) in
    rw (sum, ← drop-drop (i * n) n xs) (chunk_at n k i (drop n xs) d (omega arith))

module _ (k i : ℕ) (xs d : List ℕ) (h : i < k) (fits : k * 4 ≤ length xs) where
  -- a chunk of four, behind those before it
  plain_chunk : PlainRun (i * 4) xs → AllPlain (get_or (first_chunks 4 k xs) i d) → PlainRun (i * 4 + 4) xs
  plain_chunk run all =
      let each = rw (chunk_at 4 k i xs d h) at all in
      plain_then (i * 4) 4 xs run
      (plain_all 4 (drop (i * 4) xs) (omega (arith, length-drop (i * 4) xs)) (λ j l. rw (get_or-take 4 (drop (i * 4) xs) j 0 (omega arith)) at (each j 0 (omega arith) l)))

chunks_plain : (k m : ℕ) (xs : List ℕ) → m ≤ k → k * 4 ≤ length xs → AllWithin AllPlain (first_chunks 4 k xs) 0 m → PlainRun (m * 4) xs
chunks_plain k zero xs l fits h = plain_none xs
chunks_plain k (suc m) xs l fits h =
    let sum : suc m * 4 ≡ m * 4 + 4 = omega arith in
    rw sum (plain_chunk k m xs [] (omega arith) fits (chunks_plain k m xs (omega arith) fits (λ i d a b. h i d a (omega arith))) (h m [] (omega arith) (omega arith)))

pub plain_chunks : (Q : List ℕ → Type 0) (k : ℕ) (xs : List ℕ) (cs : List (List ℕ)) (r : Option ℕ) (m : ℕ) → k * 4 ≤ length xs → cs ≡ first_chunks 4 k xs → m ≡ unwrap_or r (length cs)
    → MatchOption r (AllWithin AllPlain cs 0 (length cs)) (λ i. (i < length cs) × HoldsAt Q cs i × AllWithin AllPlain cs 0 i) → PlainRun (m * 4) xs
plain_chunks Q k xs cs r m fits c e h =
    let b = before_it AllPlain Q cs r m e h in
    chunks_plain k m xs (omega (arith, ap length c, length_chunks 4 k xs)) fits (rw c at b.1)

pub ruleset parts = (ascii_part, ascii_front, ascii_one)
