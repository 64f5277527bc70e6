-- Where documents are refused: with a number of document 01, at a place within the bytes that are read.
-- Assumes nothing.
use Prim.Native.Nat.{ℕ, zero, suc, ◌+◌, ◌-◌, ◌≤◌, ◌<◌}
use mathlib.Core.Path.{◌≡◌}
use mathlib.Core.Logic.{inl, inr}
use mathlib.Core.List.{List}
use native.Mathlib.Omega.{arith}
use lib.ListN.{length, get_or, take, drop, length-take, length-drop}
use borrow.Author.Tests.{leb-false, ltb-false}
use Rattle.wire.specs.Outcome.{Outcome}
use Rattle.wire.specs.Bytes.{word, until_zero}
use Rattle.wire.specs.Walk.{Reader}
use Rattle.wire.proofs.Meets.{Meets, good, fault, other_fault, then, check, walk_meets}
use Rattle.bson_values.specs.Value.{Value, plain, embedded, scoped}
use Rattle.utf8.specs.Text.{well_formed, text_at}
use Rattle.utf8.proofs.Longest.{text_is_utf8}
use Rattle.bson_values.proofs.Value.{Only, ValueFault, ValueWithin, type_fits}
use Rattle.bson_elements.specs.Element.{head, inside, element}
use Rattle.bson.specs.Document.{frame, document_at}
use Rattle.bson.proofs.Frame.{frame_is}
use Rattle.bson.proofs.Element.{head_read}

-- a refusal with a number from 1 to 27 but 26, at a place that is at most `to`
abbrev pub Fault : (to number place : ℕ) → Type 0
Fault to number place = (1 ≤ number) × (number ≤ 27) × ¬ (number ≡ 26) × (place ≤ to)

-- an answer whose refusal is such
abbrev pub UpTo : {A : Type 0} → (to : ℕ) → Outcome A → Type 0
UpTo {A} to o = Meets (λ (_ : A). Unit {0}) (Fault to) o

module _ (to : ℕ) where
  -- an answer with one refusal alone, at a place within
  only : {A : Type 0} {P : A → Type 0} {o : Outcome A} (n p : ℕ) → Fault to n p → Only n p P o → Meets P (Fault to) o
  only n p f = other_fault (λ number place q. rw (q.0, q.1) f)

  -- a value that is refused, whose text ends within
  valued : {A : Type 0} {P : A → Type 0} {o : Outcome A} (v end : ℕ) → v ≤ to → end ≤ to → Meets P (ValueFault v end) o → Meets P (Fault to) o
  valued v end l m = other_fault (λ number place q. elim q [ inl f ↦ omega (arith, f.0, f.1) | inr f ↦ omega (arith, f.0, f.1) ])

  -- ---- elements

  head_bounded : (at : ℕ) (xs : List ℕ) (count : ℕ) → at + length xs < to → UpTo to (head at xs count)
  unfolding head text_at
  head_bounded at xs count l =
      check 21 at _ _ (omega arith) λ _.
      then _ (only 17 at (omega arith) (type_fits at at (get_or xs 0 0))) λ rule _ b.
      check 18 (at + 1) _ _ (omega arith) λ f.
      let n = until_zero (drop 1 xs) in
      let some = leb-false (length xs) (1 + n) f in
      let name = take n (drop 1 xs) in
      check 27 (at + 1 + well_formed name) _ _ (omega (arith, (text_is_utf8.longest name).fits, length-take n (drop 1 xs))) λ _.
      let v = at + (n + 2) in
      then _ (valued v (v + length (drop (n + 2) xs)) (omega arith) (omega (arith, length-drop (n + 2) xs)) (b.1 v 0 (drop (n + 2) xs))) λ _ _ _.
      good tt

  -- a reader of documents
  abbrev Documents : Reader ℕ → Type 0
  Documents document = (at : ℕ) (xs : List ℕ) (count : ℕ) → at + length xs < to → UpTo to (document at xs count)

  inside_bounded : (document : Reader ℕ) → Documents document → (v : ℕ) (xs : List ℕ) (count : ℕ) (value : Value) → v + length xs < to → ValueWithin value xs
      → UpTo to (inside document v xs count value)
  unfolding inside
  inside_bounded document d v xs count (plain size) l w = good tt
  inside_bounded document d v xs count embedded l w = d v xs count l
  inside_bounded document d v xs count (scoped start size) l w =
      then _ (d (v + start) (take (size - start) (drop start xs)) count (omega (arith, w.0, w.1, length-take (size - start) (drop start xs), length-drop start xs))) λ _ _ _.
      check 19 v _ _ (omega arith) λ _.
      good tt

  element_bounded : (document : Reader ℕ) → Documents document → Documents (element document)
  unfolding element
  element_bounded document d at xs count l =
      then _ (head_bounded at xs count l) λ h e _.
      let k = head_read at xs count h e in
      then _ (inside_bounded document d (at + h.start) (drop h.start xs) (count + 1) h.value (omega (arith, k.fits, length-drop h.start xs)) k.value) λ _ _ _.
      good tt

  -- ---- documents

  frame_bounded : (at : ℕ) (xs : List ℕ) → at + length xs < to → UpTo to (frame at xs)
  unfolding frame
  frame_bounded at xs l =
      check 15 at _ _ (omega arith) λ _.
      check 15 at _ _ (omega arith) λ _.
      check 15 at _ _ (omega arith) λ g.
      check 16 (at + (word xs - 1)) _ _ (omega (arith, ltb-false (length xs) (word xs) g)) λ _.
      good tt

  pub document_bounded : (levels : ℕ) → Documents (document_at levels)
  unfolding document_at
  document_bounded zero at xs count l = fault {number = 20} {place = at} (omega arith)
  document_bounded (suc levels) at xs count l =
      then _ (frame_bounded at xs l) λ n e _.
      let f = (frame_is at xs n).0 e in
      let part = length-take (n - 5) (drop 4 xs) in
      then _ (walk_meets (element (document_at levels)) (λ (_ : ℕ). Unit {0}) (Fault to) to (λ at xs count l _ _. element_bounded (document_at levels) (document_bounded levels) at xs count l)
      n (at + 4) (take (n - 5) (drop 4 xs)) count (λ _. omega (arith, f.low, f.fits, part, length-drop 4 xs)) tt) λ _ _ _.
      good tt
