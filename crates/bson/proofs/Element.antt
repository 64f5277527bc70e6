-- Laws of elements: one that is read takes a byte or more, fits the bytes that it was read from, and is passed over by its size; of type 03 it has a document.
-- Assumes nothing.
use Prim.Native.Nat.{ℕ, ◌+◌, ◌-◌, ◌<◌, ◌≤◌}
use mathlib.Core.Bool.{not}
use mathlib.Core.Path.{◌≡◌, refl, sym, ap, ◌∙◌}
use mathlib.Core.List.{List}
use native.Mathlib.Omega.{arith}
use lib.ListN.{length, get_or, take, drop, length-drop}
use lib.Dec.{eqb}
use borrow.Author.Tests.{leb-false, lt-leb}
use Rattle.wire.specs.Outcome.{ok, ◌>>=◌}
use Rattle.wire.specs.Bytes.{until_zero, one_of}
use Rattle.wire.specs.Walk.{Step, step, Reader}
use Rattle.wire.proofs.Outcome.{ok_same, went, passed, pass, bound, go_on}
use Rattle.wire.proofs.Meets.{met}
use Rattle.wire.proofs.Walk.{Advances, step_size}
use Rattle.utf8.specs.Text.{text_at}
use Rattle.bson_values.specs.Value.{Value, plain, embedded, scoped, table, rule_in}
use Rattle.bson_elements.specs.Element.{max_elements, Head, head, inside, element, size_of, over, element_size}
use Rattle.bson_values.proofs.Value.{ValueWithin, type_fits}
use Rattle.bson.proofs.Steady.{Frames}

-- some elements are allowed
some_elements : 0 < max_elements
unfolding max_elements
some_elements = omega arith

-- a head that is read: its value fits, and it is read so at any place where another element is allowed
pub record HeadRead (xs : List ℕ) (h : Head) : Type 0 where
  pub least : 2 ≤ h.start
  pub fits : h.start ≤ length xs
  pub value : ValueWithin h.value (drop h.start xs)
  pub anywhere : (at count : ℕ) → count < max_elements → head at xs count ≡ ok h

pub head_read : (at : ℕ) (xs : List ℕ) (count : ℕ) (h : Head) → head at xs count ≡ ok h → HeadRead xs h
unfolding head text_at
head_read at xs count h e =
    let n = until_zero (drop 1 xs) in
    let c = passed _ _ _ _ e in
    let rule = went _ _ c.1 in
    let d = passed _ _ _ _ rule.2 in
    let t = passed _ _ _ _ d.1 in
    let value = went _ _ t.1 in
    let v = value.0 in
    let fits = (met (type_fits at at (get_or xs 0 0)) rule.1).1 in
    let is : record { start = n + 2; value = v } ≡ h = ok_same value.2 in
    rw (← is) (record {
      least = omega arith;
      fits = omega (arith, leb-false (length xs) (1 + n) d.0);
      value = (met (fits (at + (n + 2)) 0 (drop (n + 2) xs)) value.1).1;
      anywhere = λ b k l.
          pass 21 b _ (lt-leb max_elements k l) ∙ go_on _ (met (type_fits at b (get_or xs 0 0)) rule.1).0 ∙ pass 18 (b + 1) _ d.0
          ∙ pass 27 _ _ t.0 ∙ go_on _ (met (fits (at + (n + 2)) (b + (n + 2)) (drop (n + 2) xs)) value.1).0;
    })

-- an element takes a byte or more
pub element_advances : (document : Reader ℕ) → Advances (element document)
unfolding element
element_advances document at xs count r e =
    bound (head at xs count) _ e λ h eh fh.
    bound (inside document _ _ _ _) _ fh λ i ei fi.
    omega (arith, (head_read at xs count h eh).least, step_size fi)

-- of type 03 it has a document behind its name
head_document : (at : ℕ) (xs : List ℕ) (count : ℕ) (h : Head) → head at xs count ≡ ok h → get_or xs 0 0 ≡ 0x03
    → record { start = until_zero (drop 1 xs) + 2; value = embedded } ≡ h
unfolding head text_at table rule_in one_of ◌>>=◌
head_document at xs count h e three =
    let c = passed _ _ _ _ e in
    let d = passed _ _ _ _ (rw three at c.1) in
    ok_same (passed _ _ _ _ d.1).1

pub element_document : (document : Reader ℕ) (at : ℕ) (xs : List ℕ) (count : ℕ) (r : Step ℕ) → element document at xs count ≡ ok r → get_or xs 0 0 ≡ 0x03
    → (d : Step ℕ) × (document (at + (until_zero (drop 1 xs) + 2)) (drop (until_zero (drop 1 xs) + 2) xs) (count + 1) ≡ ok d)
unfolding element inside
element_document document at xs count r e three =
    bound (head at xs count) _ e λ h eh fh.
    bound (inside document (at + h.start) (drop h.start xs) (count + 1) h.value) _ fh λ d ed fd.
    (d, rw (← head_document at xs count h eh three) at ed)

module _ (document : Reader ℕ) (framed : Frames document) where
  inside_fits : (v : ℕ) (xs : List ℕ) (count : ℕ) (x : Value) (r : Step ℕ) → ValueWithin x xs → inside document v xs count x ≡ ok r → r.size ≤ length xs
  unfolding inside
  inside_fits v xs count (plain size) r f h = omega (arith, step_size h)
  inside_fits v xs count embedded r f h = (framed v xs count r h).fits
  inside_fits v xs count (scoped start size) r f h =
      let c = went _ _ h in
      let d = passed _ _ _ _ c.2 in
      omega (arith, f.1, step_size d.1)

  -- an element fits
  pub element_fits : (at : ℕ) (xs : List ℕ) (count : ℕ) (r : Step ℕ) → element document at xs count ≡ ok r → r.size ≤ length xs
  unfolding element
  element_fits at xs count r e =
      bound (head at xs count) _ e λ h eh fh.
      bound (inside document _ _ _ _) _ fh λ i ei fi.
      let k = head_read at xs count h eh in
      omega (arith, k.fits, inside_fits _ _ _ h.value i k.value ei, length-drop h.start xs, step_size fi)

  inside_over : (v w : ℕ) (xs : List ℕ) (count other : ℕ) (x : Value) (r : Step ℕ) → inside document v xs count x ≡ ok r → inside over w xs other x ≡ step r.size other
  unfolding inside
  inside_over v w xs count other (plain size) r h = ap (λ (n : ℕ). step n other) (sym (step_size h))
  inside_over v w xs count other embedded r h = ap (λ (n : ℕ). step n other) (sym (framed v xs count r h).is)
  inside_over v w xs count other (scoped start size) r h =
      let c = went _ _ h in
      let d = passed _ _ _ _ c.2 in
      let l = (framed (v + start) (take (size - start) (drop start xs)) count c.0 c.1).is in
      go_on _ refl ∙ pass 19 w _ (ap (λ (n : ℕ). not (eqb (start + n) size)) (sym l) ∙ d.0) ∙ ap (λ (n : ℕ). step n other) (sym (step_size d.1))

  -- it is passed over by its size
  pub element_over : (at : ℕ) (xs : List ℕ) (count : ℕ) (r : Step ℕ) → element document at xs count ≡ ok r → element_size xs ≡ r.size
  unfolding element_size element size_of
  element_over at xs count r e =
      bound (head at xs count) _ e λ h eh fh.
      bound (inside document _ _ _ _) _ fh λ i ei fi.
      ap size_of (go_on _ ((head_read at xs count h eh).anywhere 0 0 some_elements) ∙ go_on _ (inside_over _ _ _ _ (0 + 1) h.value i ei)) ∙ sym (step_size fi)
