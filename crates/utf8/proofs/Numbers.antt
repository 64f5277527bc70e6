-- The forms of UTF-8 are those of the characters' numbers and no others: the theorem of `specs/Numbers.antt`.
-- Assumes nothing.
use Prim.Native.Nat.{ℕ, zero, suc, ◌+◌, ◌*◌, ◌-◌, ◌≤◌, ◌<◌}
use mathlib.Core.Path.{◌≡◌, refl, sym}
use mathlib.Core.Logic.{◌⊎◌, inl, inr}
use mathlib.Core.List.Memᴰ
use mathlib.Core.List.{List, [], ◌∷◌, Memᴰ}
use native.Mathlib.Omega.{arith}
use native.Mathlib.Decide.{dec_lt}
use lib.ListN.{length, get_or}
use borrow.Author.Tests.{lt-ltb, le-ltb}
use Rattle.utf8.specs.Utf8.{Range, ◌–◌, tail, forms, Of, Character}
use Rattle.utf8.specs.Numbers.{Numbered, first, later, encoded, CharactersHaveNumbers}

-- ---- the bytes of a number, by its size

one : (n : ℕ) → n < 0x80 → encoded n ≡ n ∷ []
unfolding encoded
one n h = rw (encoded, lt-ltb n 0x80 h)

two : (n : ℕ) → 0x80 ≤ n → n < 0x800 → encoded n ≡ first 0xC0 0x40 n ∷ later 1 n ∷ []
unfolding encoded
two n l h = rw (encoded, le-ltb n 0x80 l, lt-ltb n 0x800 h)

three : (n : ℕ) → 0x800 ≤ n → n < 0x1_0000 → encoded n ≡ first 0xE0 0x1000 n ∷ later 0x40 n ∷ later 1 n ∷ []
unfolding encoded
three n l h = rw (encoded, le-ltb n 0x80 (omega arith), le-ltb n 0x800 l, lt-ltb n 0x1_0000 h)

four : (n : ℕ) → 0x1_0000 ≤ n → encoded n ≡ first 0xF0 0x4_0000 n ∷ later 0x1000 n ∷ later 0x40 n ∷ later 1 n ∷ []
unfolding encoded
four n l = rw (encoded, le-ltb n 0x80 (omega arith), le-ltb n 0x800 (omega arith), le-ltb n 0x1_0000 l)

-- ---- from a number to its character: the row of the table that its bytes are of

abbrev Within : List Range → List ℕ → Type 0
Within [] [] = Unit {0}
Within [] (x ∷ xs) = ⊥
Within (r ∷ rs) [] = ⊥
Within (r ∷ rs) (x ∷ xs) = (r.low ≤ x) × (x ≤ r.high) × Within rs xs

within : (form : List Range) (xs : List ℕ) → Within form xs → Of form xs
within [] [] w = Of.none
within [] (x ∷ xs) w = absurd w
within (r ∷ rs) [] w = absurd w
within (r ∷ rs) (x ∷ xs) w = Of.more w.0 w.1 (within rs xs w.2)

listed : (fs : List (List Range)) (i : ℕ) → i < length fs → Memᴰ (get_or fs i []) fs
listed [] i h = absurd (omega arith)
listed (f ∷ fs) zero h = Memᴰ.head refl
listed (f ∷ fs) (suc i) h = Memᴰ.tail (listed fs i (omega arith))

row : (i : ℕ) (xs : List ℕ) → i < length forms → Within (get_or forms i []) xs → Character xs
row i xs h w = Character.character (listed forms i h) (within (get_or forms i []) xs w)

module _ (n : ℕ) (d : Numbered n) where
  character_of_three : 0x800 ≤ n → n < 0x1_0000 → Character (first 0xE0 0x1000 n ∷ later 0x40 n ∷ later 1 n ∷ [])
  unfolding forms
  character_of_three l h =
      elim (dec_lt n 0x1000) [
        | yes h ↦ row 2 _ (omega arith) (omega arith)
        | no l ↦ elim (dec_lt n 0xD000) [
          | yes h ↦ row 3 _ (omega arith) (omega arith)
          | no l ↦ elim (dec_lt n 0xD800) [
            | yes h ↦ row 4 _ (omega arith) (omega arith)
            | no l ↦ elim (dec_lt n 0xE000) [ yes h ↦ absurd (d.single (omega arith)) | no l ↦ row 5 _ (omega arith) (omega arith) ]
          ]
        ]
      ]

  character_of_four : 0x1_0000 ≤ n → Character (first 0xF0 0x4_0000 n ∷ later 0x1000 n ∷ later 0x40 n ∷ later 1 n ∷ [])
  unfolding forms
  character_of_four l =
      elim (dec_lt n 0x4_0000) [
        | yes h ↦ row 6 _ (omega arith) (omega arith)
        | no l ↦ elim (dec_lt n 0x10_0000) [ yes h ↦ row 7 _ (omega arith) (omega arith) | no l ↦ row 8 _ (omega arith) (omega arith) ]
      ]

  character_of_lem : Character (encoded n)
  unfolding forms
  character_of_lem =
      elim (dec_lt n 0x80) [
        | yes h ↦ rw (one n h) (row 0 _ (omega arith) (omega arith))
        | no l ↦ elim (dec_lt n 0x800) [
          | yes h ↦ rw (two n (omega arith) h) (row 1 _ (omega arith) (omega arith))
          | no l ↦ elim (dec_lt n 0x1_0000) [
            | yes h ↦ rw (three n (omega arith) h) (character_of_three (omega arith) h)
            | no l ↦ rw (four n (omega arith)) (character_of_four (omega arith))
          ]
        ]
      ]

-- ---- from a character to its number, form by form

abbrev Number : List ℕ → Type 0
Number xs = (n : ℕ) × Numbered n × (xs ≡ encoded n)

-- the number that three bytes have, or four, by the bits of them all without those that only tell their places
abbrev number_three : (a b c : ℕ) → ℕ
number_three a b c = a * 0x1000 + b * 0x40 + c - (0xE0 * 0x1000 + 0x80 * 0x40 + 0x80)

abbrev number_four : (a b c d : ℕ) → ℕ
number_four a b c d = a * 0x4_0000 + b * 0x1000 + c * 0x40 + d - (0xF0 * 0x4_0000 + 0x80 * 0x1000 + 0x80 * 0x40 + 0x80)

of_one : (xs : List ℕ) → Of (0x00 – 0x7F ∷ []) xs → Number xs
of_one xs (Of.more {x = a} l h Of.none) = (a, omega arith, sym (one a (omega arith)))

of_two : (xs : List ℕ) → Of (0xC2 – 0xDF ∷ tail ∷ []) xs → Number xs
of_two xs (Of.more {x = a} l h (Of.more {x = b} l' h' Of.none)) =
    let n : ℕ = a * 0x40 + b - (0xC0 * 0x40 + 0x80) in
    let p : a ≡ first 0xC0 0x40 n = omega arith in
    let q : b ≡ later 1 n = omega arith in
    (n, omega arith, rw (two n (omega arith) (omega arith)) (cc (p, q)))

-- the forms of three bytes and of four, by what the ranges of the first two bring about
record Three (a b c : ℕ) : Type 0 where
  first_byte : 0xE0 ≤ a
  second_byte : (0x80 ≤ b) × (b ≤ 0xBF)
  size : (0x800 ≤ number_three a b c) × (number_three a b c < 0x1_0000)
  is : Numbered (number_three a b c)

of_three : {r s : Range} → ((a b c : ℕ) → r.low ≤ a → a ≤ r.high → s.low ≤ b → b ≤ s.high → 0x80 ≤ c → c ≤ 0xBF → Three a b c)
    → (xs : List ℕ) → Of (r ∷ s ∷ tail ∷ []) xs → Number xs
of_three has xs (Of.more {x = a} l h (Of.more {x = b} l' h' (Of.more {x = c} l'' h'' Of.none))) =
    let t : Three a b c = has a b c l h l' h' l'' h'' in
    let n : ℕ = number_three a b c in
    let p : a ≡ first 0xE0 0x1000 n = omega arith in
    let q : b ≡ later 0x40 n = omega arith in
    let r : c ≡ later 1 n = omega arith in
    (n, t.is, rw (three n t.size.0 t.size.1) (cc (p, q, r)))

record Four (a b c d : ℕ) : Type 0 where
  first_byte : 0xF0 ≤ a
  second_byte : (0x80 ≤ b) × (b ≤ 0xBF)
  size : 0x1_0000 ≤ number_four a b c d
  is : Numbered (number_four a b c d)

of_four : {r s : Range} → ((a b c d : ℕ) → r.low ≤ a → a ≤ r.high → s.low ≤ b → b ≤ s.high → 0x80 ≤ c → c ≤ 0xBF → 0x80 ≤ d → d ≤ 0xBF → Four a b c d)
    → (xs : List ℕ) → Of (r ∷ s ∷ tail ∷ tail ∷ []) xs → Number xs
of_four has xs (Of.more {x = a} l h (Of.more {x = b} l' h' (Of.more {x = c} l'' h'' (Of.more {x = d} l''' h''' Of.none)))) =
    let t : Four a b c d = has a b c d l h l' h' l'' h'' l''' h''' in
    let n : ℕ = number_four a b c d in
    let p : a ≡ first 0xF0 0x4_0000 n = omega arith in
    let q : b ≡ later 0x1000 n = omega arith in
    let r : c ≡ later 0x40 n = omega arith in
    let s : d ≡ later 1 n = omega arith in
    (n, t.is, rw (four n t.size) (cc (p, q, r, s)))

-- what each form of a list has, every form of it has
abbrev Every : List (List Range) → Type 0
Every fs = (form : List Range) → Memᴰ form fs → (xs : List ℕ) → Of form xs → Number xs

infixr 5 ◌and◌
◌and◌ : {f : List Range} {fs : List (List Range)} → ((xs : List ℕ) → Of f xs → Number xs) → Every fs → Every (f ∷ fs)
◌and◌ {f} {fs} here there form m xs o = go (Memᴰ.cases_cons m)
  where
    go : (form ≡ f) ⊎ Memᴰ form fs → Number xs
    go (inl same) = here xs (rw same at o)
    go (inr rest) = there form rest xs o

number_of : Every forms
unfolding forms
number_of =
    of_one
    and of_two
    and of_three (omega arith)
    and of_three (omega arith)
    and of_three (omega arith)
    and of_three (omega arith)
    and of_four (omega arith)
    and of_four (omega arith)
    and of_four (omega arith)
    and λ form m xs o. absurd (Memᴰ.not-nil m)

-- ---- the theorem

pub characters_have_numbers : CharactersHaveNumbers
characters_have_numbers xs = (to, λ h. rw h.2 (character_of_lem h.0 h.1))
  where
    to : {ys : List ℕ} → Character ys → Number ys
    to (Character.character {form} {xs = ys} m o) = number_of form m ys o
