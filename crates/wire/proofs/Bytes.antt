-- Laws of numbers and texts in a run of bytes: a number's four bytes read back, and what a front of the bytes shows.
-- Assumes nothing.
use Prim.Native.Nat.{ℕ, zero, suc, ◌+◌, ◌-◌, ◌*◌, ◌/◌, ◌%◌, ◌^◌, ◌<◌, ◌≤◌}
use mathlib.Core.Bool.{Bool, true, false, cond}
use mathlib.Core.Path.{◌≡◌, refl, sym, ap, ◌∙◌}
use mathlib.Core.List.{List, [], ◌∷◌, ◌++◌}
use native.Mathlib.Omega.{arith}
use native.Mathlib.Numerals.{add-one}
use native.Mathlib.Nat.{div-div-eq-div-mul, div-lt_iff_lt-mul, mod-eq_of_lt, mod-add-div}
use lib.ListN.{length, get_or, take, drop, length-drop, drop_of_length-le}
use lib.Seq.{take-suc, drop-append-le, drop-cons, get_or-drop}
use lib.Dec.{ltb, leb, eqb}
use lib.IntN.{ℤ, pos, negsuc}
use mir.Syntax.{w32}
use mir.Val.{SFits}
use borrow.Author.Tests.{ltb-false, leb-false, lt-ltb, le-ltb, lt-leb, eqb-true, eq-eqb, ne_eqb}
use Rattle.std.specs.Prelude.{◌≢◌}
use Rattle.std.specs.List.{position_or_len}
use Rattle.std.specs.Int.{cast_signed, cast_unsigned, from_le_bytes, to_le_bytes}
use Rattle.std.proofs.lemmas.List.Recursion.{is_position_or_len}
use Rattle.wire.proofs.Agree.{agree_word, agree_append}
use Rattle.wire.specs.Bytes.{Bytes, word, word_at, under, signed, bits32, le32, until_zero}

-- a number that is not under n, as a signed one
pub not_under : (n w : ℕ) → n ≤ w → w < 2 ^ 31 → under n w ≡ false
unfolding under
not_under n w l h = rw (under, le-ltb w n l) (lt-leb (2 ^ 31) w h)

pub under_false : (n w : ℕ) → under n w ≡ false → (n ≤ w) × (w < 2 ^ 31)
unfolding under
under_false n w h = go (ltb w n) refl h
  where
    go : (b : Bool) → ltb w n ≡ b → ◌≡◌ {A = Bool} (elim b [ true ↦ true | false ↦ leb (2 ^ 31) w ]) false → (n ≤ w) × (w < 2 ^ 31)
    go true e h = let z : ◌≡◌ {A = ℕ} 0 1 = cc in absurd (omega arith)
    go false e h = (ltb-false w n e, leb-false (2 ^ 31) w h)

-- std's words for the same: of signed numbers,
pub signed_is : (w : ℕ) → signed w ≡ cast_signed w32 w
unfolding signed
signed_is w = go (ltb w (2 ^ 31)) refl
  where
    go : (b : Bool) → ltb w (2 ^ 31) ≡ b → signed w ≡ cast_signed w32 w
    go true e = rw (signed, e) refl
    go false e = let same : 2 ^ 32 - 1 - w ≡ 2 ^ 32 - suc w = omega arith in rw (signed, e, same) refl

pub bits32_is : (x : ℤ) → bits32 x ≡ cast_unsigned w32 x
unfolding bits32
bits32_is (pos n) = refl
bits32_is (negsuc n) = omega arith

-- and of words and their bytes
pub le32_is : (w : ℕ) → to_le_bytes w32 w ≡ le32 w
unfolding le32
le32_is w = grind arith

pub word_is : (s : List ℕ) → word s ≡ from_le_bytes w32 (get_or s 0 0 ∷ get_or s 1 0 ∷ get_or s 2 0 ∷ get_or s 3 0 ∷ [])
unfolding word
word_is s = omega arith

-- bytes
pub bytes_drop : (k : ℕ) (s : List ℕ) → Bytes s → Bytes (drop k s)
bytes_drop k s b i = rw get_or-drop (b (k + i))

pub bytes_take : (n : ℕ) (s : List ℕ) → Bytes s → Bytes (take n s)
bytes_take zero s b i = omega arith
bytes_take (suc n) [] b i = omega arith
bytes_take (suc n) (x ∷ s) b zero = b 0
bytes_take (suc n) (x ∷ s) b (suc i) = bytes_take n s (λ j. b (suc j)) i

-- the number that four bytes hold, and its bytes
four_digits : (n a b c p q r : ℕ) → p + 0x100 * a ≡ n → q + 0x100 * b ≡ a → r + 0x100 * c ≡ b
    → p + 0x100 * q + 0x1_0000 * r + 0x100_0000 * c ≡ n
four_digits n a b c p q r d e f = omega arith

pub word_le32 : (n : ℕ) (r : List ℕ) → n < 2 ^ 32 → word (le32 n ++ r) ≡ n
unfolding word le32
word_le32 n r h =
    let a : n / 0x1_0000 ≡ n / 0x100 / 0x100 = sym (div-div-eq-div-mul n 0x100 0x100) in
    let b : n / 0x100_0000 ≡ n / 0x1_0000 / 0x100 = sym (div-div-eq-div-mul n 0x1_0000 0x100) in
    let c : n / 0x100_0000 < 0x100 = (div-lt_iff_lt-mul {k = 0x100_0000} {y = 0x100} (omega arith)).1 h in
    rw (mod-eq_of_lt c)
    (four_digits n (n / 0x100) (n / 0x1_0000) (n / 0x100_0000) (n % 0x100) (n / 0x100 % 0x100) (n / 0x1_0000 % 0x100)
    (mod-add-div n 0x100) (rw a (mod-add-div (n / 0x100) 0x100)) (rw b (mod-add-div (n / 0x1_0000) 0x100)))

word_lt : (s : List ℕ) → Bytes s → word s < 2 ^ 32
unfolding word
word_lt s b = omega (arith, b 0, b 1, b 2, b 3)

pub word_at_lt : (k : ℕ) (s : List ℕ) → Bytes s → word_at k s < 2 ^ 32
unfolding word_at
word_at_lt k s b = word_lt (drop k s) (bytes_drop k s b)

low_digit : (a m : ℕ) → a < 256 → (a + 256 * m) % 256 ≡ a
low_digit a m h = omega arith

high_digits : (a m : ℕ) → a < 256 → (a + 256 * m) / 256 ≡ m
high_digits a m h = omega arith

digits : (a b c d : ℕ) → a < 256 → b < 256 → c < 256 → d < 256 → le32 (a + 256 * b + 65536 * c + 16777216 * d) ≡ a ∷ b ∷ c ∷ d ∷ []
unfolding le32
digits a b c d p q r t =
    let m = c + 256 * d in
    let n = b + 256 * m in
    let e : a + 256 * b + 65536 * c + 16777216 * d ≡ a + 256 * n = omega arith in
    rw (e, ← div-div-eq-div-mul (a + 256 * n) 65536 256, ← div-div-eq-div-mul (a + 256 * n) 256 256, high_digits a n p, low_digit a n p, high_digits b m q, low_digit b m q, high_digits c d r, low_digit c d r, mod-eq_of_lt t)

pub le32_word : (s : List ℕ) → Bytes s → 4 ≤ length s → le32 (word s) ≡ take 4 s
unfolding word
le32_word s b l =
    rw (take-suc s 3 0 (omega arith), take-suc s 2 0 (omega arith), take-suc s 1 0 (omega arith), take-suc s 0 0 (omega arith))
    (digits _ _ _ _ (b 0) (b 1) (b 2) (b 3))

pub bits32_signed : (n : ℕ) → n < 2 ^ 32 → bits32 (signed n) ≡ n
unfolding signed bits32
bits32_signed n l = go (ltb n (2 ^ 31)) refl
  where
    go : (b : Bool) → ltb n (2 ^ 31) ≡ b → bits32 (signed n) ≡ n
    go true e = rw (signed, e)
    go false e = rw (signed, e) (omega (arith, ltb-false n (2 ^ 31) e))

pub bits32_lt : (x : ℤ) → SFits w32 x → bits32 x < 2 ^ 32
unfolding bits32
bits32_lt (pos n) f = let k : n < 2 ^ 31 = f.sfits in omega arith
bits32_lt (negsuc n) f = omega arith

pub signed_bits32 : (x : ℤ) → SFits w32 x → signed (bits32 x) ≡ x
unfolding signed bits32
signed_bits32 (pos n) f = rw (signed, lt-ltb n (2 ^ 31) f.sfits)
signed_bits32 (negsuc n) f =
    let e : 2 ^ 32 - 1 - (2 ^ 32 - 1 - n) ≡ n = omega arith in
    rw (signed, le-ltb (2 ^ 32 - 1 - n) (2 ^ 31) (omega arith), e)

-- a front of the bytes shows the numbers in it
pub word_front : (xs r : List ℕ) → 4 ≤ length xs → word (xs ++ r) ≡ word xs
word_front xs r h = agree_word (agree_append r h) (omega arith)

pub word_at_front : (k : ℕ) (h r : List ℕ) → k + 4 ≤ length h → word_at k (h ++ r) ≡ word_at k h
unfolding word_at
word_at_front k h r l =
    let a : k ≤ length h = omega arith in
    let b : 4 ≤ length (drop k h) = simp length-drop (omega arith) in
    rw (drop-append-le k h r) (word_front (drop k h) r b)

-- texts ended by zero
pub until_stop : (x : ℕ) (l : List ℕ) → eqb x 0 ≡ true → until_zero (x ∷ l) ≡ 0
unfolding until_zero
until_stop x l e = rw (until_zero, e)

pub until_go : (x : ℕ) (l : List ℕ) → eqb x 0 ≡ false → until_zero (x ∷ l) ≡ suc (until_zero l)
unfolding until_zero
until_go x l e = rw (until_zero, e)

-- the search by std's word
pub until_zero_is : (s : List ℕ) → until_zero s ≡ position_or_len (λ x. eqb x 0) s
until_zero_is s = is_position_or_len until_zero (λ x. eqb x 0) (unfold until_zero in refl) (λ x xs. go x xs (eqb x 0) refl) s
  where
    go : (x : ℕ) (xs : List ℕ) (b : Bool) → eqb x 0 ≡ b → until_zero (x ∷ xs) ≡ cond (eqb x 0) 0 (1 + until_zero xs)
    go x xs true e = rw (until_stop x xs e, e) refl
    go x xs false e = rw (until_go x xs e, e) (omega arith)

-- a zero stands where the search ends
pub until_zero_lem : (l : List ℕ) → until_zero l < length l → get_or l (until_zero l) 0 ≡ 0
until_zero_lem [] h = refl
until_zero_lem (x ∷ l) h = go (eqb x 0) refl (until_zero_lem l)
  where
    go : (b : Bool) → eqb x 0 ≡ b → (until_zero l < length l → get_or l (until_zero l) 0 ≡ 0) → get_or (x ∷ l) (until_zero (x ∷ l)) 0 ≡ 0
    go true e ih = rw (until_stop x l e) (eqb-true x 0 e)
    go false e ih = rw (until_go x l e) (ih (omega (arith, until_go x l e)))

-- the search at place i: a zero stands there; another byte does; there is nothing left
pub at_zero : (xs : List ℕ) (i : ℕ) → i < length xs → eqb (get_or xs i 0) 0 ≡ true → until_zero (drop i xs) ≡ 0
at_zero xs i h z = rw (drop-cons xs i 0 h) (until_stop _ _ z)

pub past_byte : (xs : List ℕ) (i : ℕ) → i < length xs → eqb (get_or xs i 0) 0 ≡ false → until_zero (drop i xs) ≡ suc (until_zero (drop (i + 1) xs))
past_byte xs i h z = rw (add-one, drop-cons xs i 0 h) (until_go _ _ z)

pub past_all : (xs : List ℕ) (i : ℕ) → length xs ≤ i → until_zero (drop i xs) ≡ 0
unfolding until_zero
past_all xs i h = rw (drop_of_length-le xs h)

-- what a loop knows that has passed i bytes: the answer for all of s is i more than the answer for what is left
module _ (s : List ℕ) (i : ℕ) (passed : until_zero s ≡ i + until_zero (drop i s)) where
  pub one_further : i < length s → get_or s i 0 ≢ 0 → until_zero s ≡ i + 1 + until_zero (drop (i + 1) s)
  one_further h z = omega (arith, passed, past_byte s i h (ne_eqb _ _ z))

  pub at_a_zero : i < length s → get_or s i 0 ≡ 0 → until_zero s ≡ i
  at_a_zero h z = omega (arith, passed, at_zero s i h (eq-eqb _ _ z))

  pub at_the_end : length s ≤ i → until_zero s ≡ i
  at_the_end h = omega (arith, passed, past_all s i h)

pub ruleset searched = (one_further, at_a_zero, at_the_end)

-- and none stands before
pub until_front : (l : List ℕ) → until_zero (take (until_zero l) l) ≡ until_zero l
until_front [] = unfold until_zero in refl
until_front (x ∷ l) = go (eqb x 0) refl (until_front l)
  where
    go : (b : Bool) → eqb x 0 ≡ b → until_zero (take (until_zero l) l) ≡ until_zero l → until_zero (take (until_zero (x ∷ l)) (x ∷ l)) ≡ until_zero (x ∷ l)
    go true e ih = rw (until_stop x l e) (unfold until_zero in refl)
    go false e ih = rw (until_go x l e) (until_go x (take (until_zero l) l) e ∙ ap suc ih)

pub until_le : (l : List ℕ) → until_zero l ≤ length l
until_le [] = unfold until_zero in omega arith
until_le (x ∷ l) = go (eqb x 0) refl (until_le l)
  where
    go : (b : Bool) → eqb x 0 ≡ b → until_zero l ≤ length l → until_zero (x ∷ l) ≤ suc (length l)
    go true e ih = rw (until_stop x l e) (omega arith)
    go false e ih = rw (until_go x l e) (omega arith)
