-- A block of characters of one byte and of two: bytes of which each has behind it what may stand there are such characters.
-- Assumes nothing.
use Prim.Native.Nat.{ℕ, zero, suc, ◌+◌, ◌≤◌, ◌<◌}
use mathlib.Core.Path.{◌≡◌, refl, ap, ◌∙◌}
use mathlib.Core.Logic.{◌⊎◌, inl, inr}
use mathlib.Core.List.{List, [], ◌∷◌}
use native.Mathlib.Omega.{arith}
use native.Mathlib.Decide.{dec_lt}
use lib.ListN.{length, get_or, drop, length-drop}
use lib.Seq.{get_or-drop}
use borrow.Author.Tests.{le-leb}
use Rattle.utf8.specs.Utf8.{◌–◌, tail, forms}
use Rattle.utf8.proofs.Forms.{a_byte, meeting, of_form}
use Rattle.utf8_ascii.proofs.OneByte.{ascii_one}
use Rattle.utf8_text.specs.Inner.{Passes, Tail, Other, Joined}
use Rattle.utf8_text.proofs.Passing.{none_passes, ascii_passes, character_passes, passes_then}

first_byte : (p : ℕ) (s : List ℕ) → get_or (drop p s) 0 0 ≡ get_or s p 0
first_byte p s = let same : p + 0 ≡ p = omega arith in get_or-drop p s 0 0 ∙ ap (λ (i : ℕ). get_or s i 0) same

-- one character at place p
one : (p : ℕ) (s : List ℕ) → p < length s → get_or s p 0 < 0x80 → Passes p s → Passes (p + 1) s
one p s l h before =
    let first : get_or (drop p s) 0 0 < 0x80 = rw (first_byte p s) h in
    passes_then p 1 s before (ascii_passes 1 (drop p s) (omega (arith, length-drop p s)) (ascii_one (drop p s) first))

two : (p : ℕ) (s : List ℕ) → p + 1 < length s → 0xC2 ≤ get_or s p 0 → get_or s p 0 ≤ 0xDF → Tail (get_or s (p + 1) 0) → Passes p s → Passes (p + 2) s
unfolding forms meeting
two p s l a b t before =
    let long = length-drop p s in
    let byte = a_byte tail (drop p s) 1 (omega (arith, long)) in
    let first = first_byte p s in
    let form = of_form (0xC2 – 0xDF) (drop p s) (omega (arith, long)) (rw first a) (rw first b) (tail ∷ []) refl in
    passes_then p 2 s before (character_passes 2 (drop p s) (rw (form, byte, get_or-drop p s 1 0, le-leb _ _ t.0, le-leb _ _ t.1)))

-- where a block ends: behind it, or behind one byte more, which is a tail
abbrev Ends : List ℕ → Type 0
Ends s = (Passes 32 s × Other (get_or s 32 0)) ⊎ (Passes 33 s × Tail (get_or s 32 0))

module _ (s : List ℕ) (long : 33 ≤ length s) (joined : Joined 32 s) where
  at_end : (p : ℕ) → p ≡ 32 → Other (get_or s p 0) → Passes p s → Ends s
  at_end p e o before = inl (rw e at before, rw e at o)

  -- from a place on at which a character begins
  abbrev From : (left : ℕ) → Type 0
  From left = (p : ℕ) → 32 ≤ p + left → p ≤ 32 → Other (get_or s p 0) → Passes p s → Ends s

  behind_two : (left : ℕ) → From left → (p : ℕ) → 32 ≤ p + suc left → p < 32 → 0xC2 ≤ get_or s p 0 → get_or s p 0 ≤ 0xDF → Tail (get_or s (p + 1) 0) → Passes p s → Ends s
  behind_two left rest p f l a b t before =
      let passed = two p s (omega arith) a b t before in
      elim (dec_lt (p + 1) 32) [
        | yes m ↦ elim (joined (p + 1) m) [
          | inl q ↦ absurd (omega (arith, q.0, t.1))
          | inr q ↦ let next : p + 1 + 1 ≡ p + 2 = omega arith in rest (p + 2) (omega arith) (omega arith) (rw next at q.1) passed
        ]
        | no m ↦ let e : p + 1 ≡ 32 = omega arith in let e' : p + 2 ≡ 33 = omega arith in inr (rw e' at passed, rw e at t)
      ]

  behind : (left : ℕ) → From left → (p : ℕ) → 32 ≤ p + suc left → p < 32 → Other (get_or s p 0) → Passes p s → Ends s
  behind left rest p f l o before =
      elim (joined p l) [
        | inl q ↦ behind_two left rest p f l q.0 q.1 q.2 before
        | inr q ↦ elim o [
          | inl h ↦ rest (p + 1) (omega arith) (omega arith) q.1 (one p s (omega arith) h before)
          | inr h ↦ absurd (omega (arith, q.0, h))
        ]
      ]

  from : (left : ℕ) → From left
  from zero p f l o before = at_end p (omega arith) o before
  from (suc left) p f l o before = elim (dec_lt p 32) [ yes m ↦ behind left (from left) p f m o before | no m ↦ at_end p (omega arith) o before ]

  module _ (start : Other (get_or s 0 0)) where
    ends : Ends s
    ends = from 32 0 (omega arith) (omega arith) start (none_passes s)

    pub whole : Other (get_or s 32 0) → Passes 32 s
    whole o = elim ends [ inl e ↦ e.0 | inr e ↦ elim o [ inl h ↦ absurd (omega (arith, h, e.1.0)) | inr h ↦ absurd (omega (arith, h, e.1.1)) ] ]

    pub and_a_tail : Tail (get_or s 32 0) → Passes 33 s
    and_a_tail t = elim ends [ inr e ↦ e.0 | inl e ↦ elim e.1 [ inl k ↦ absurd (omega (arith, k, t.0)) | inr k ↦ absurd (omega (arith, k, t.1)) ] ]
