-- Elements that were read fill their bytes, so that a walk by their sizes passes each of them; and so within their documents.
-- Assumes nothing.
use Prim.Native.Nat.{ℕ, zero, suc, ◌-◌, ◌≤◌}
use mathlib.Core.Path.{◌≡◌, sym, ap, ◌∙◌}
use mathlib.Core.List.{List, [], ◌∷◌}
use native.Mathlib.Omega.{arith}
use lib.ListN.{length, get_or, take, drop, length-take, length-drop}
use lib.Seq.{length-take-le}
use Rattle.wire.specs.Outcome.{ok}
use Rattle.wire.specs.Bytes.{until_zero}
use Rattle.wire.specs.Walk.{Step, Reader, walk}
use Rattle.wire.proofs.Outcome.{not_ok, ok_same, went, bound}
use Rattle.wire.proofs.Bytes.{until_le}
use Rattle.wire.proofs.Walk.{walk_step}
use Rattle.bson_elements.specs.Element.{element}
use Rattle.bson.specs.Document.{frame, document_at}
use Rattle.bson.proofs.Frame.{document_framed}
use Rattle.bson.proofs.Steady.{Frames}
use Rattle.bson.proofs.Element.{element_advances, element_document, element_fits, element_over}
use Rattle.opmsg.specs.Names.{name_text}
use Rattle.opmsg.specs.Dotted.{elements_within}
use Rattle.opmsg.specs.Inner.{Filled, none, more}

-- a reader of documents that elements fill between the length and the last byte
abbrev Fills : Reader ℕ → Type 0
Fills document = (at : ℕ) (xs : List ℕ) (count : ℕ) (r : Step ℕ) → document at xs count ≡ ok r → Filled (take (r.size - 5) (drop 4 xs))

module _ (document : Reader ℕ) (framed : Frames document) (fills : Fills document) where
  -- what is within an element of type 03
  within_filled : (at : ℕ) (xs : List ℕ) (count : ℕ) (r : Step ℕ) → element document at xs count ≡ ok r → get_or xs 0 0 ≡ 0x03 → Filled (elements_within xs)
  unfolding elements_within name_text
  within_filled at xs count r e three =
      let d = element_document document at xs count r e three in
      rw (length-take-le (until_zero (drop 1 xs)) (drop 1 xs) (until_le (drop 1 xs)), ← (framed _ _ _ d.0 d.1).is) (fills _ _ _ d.0 d.1)

  elements_filled : (turns at : ℕ) (xs : List ℕ) (count : ℕ) {c : ℕ} → length xs ≤ turns → walk (element document) turns at xs count ≡ ok c → Filled xs
  elements_filled zero at [] count l h = none
  elements_filled zero at (x ∷ xs) count l h = absurd (omega arith)
  elements_filled (suc turns) at [] count l h = none
  elements_filled (suc turns) at (x ∷ xs) count l h =
      let w = went _ _ (sym (walk_step _ turns at (x ∷ xs) count (omega arith)) ∙ h) in
      let size = element_over document framed at (x ∷ xs) count w.0 w.1 in
      let some = element_advances document at (x ∷ xs) count w.0 w.1 in
      let fits = element_fits document framed at (x ∷ xs) count w.0 w.1 in
      more {xs = x ∷ xs} (omega arith) (omega arith) (within_filled at (x ∷ xs) count w.0 w.1)
      (rw size (elements_filled turns _ _ _ (rw length-drop (omega arith)) w.2))

-- what lies between the length and the last byte of a document that was read
pub document_filled : (levels at : ℕ) (xs : List ℕ) (count : ℕ) (r : Step ℕ) → document_at levels at xs count ≡ ok r → Filled (take (r.size - 5) (drop 4 xs))
unfolding document_at
document_filled zero at xs count r h = not_ok h
document_filled (suc levels) at xs count r h =
    bound (frame at xs) _ h λ n en fn.
    bound _ _ fn λ total et ft.
    let size : n ≡ r.size = ap (λ (x : Step ℕ). x.size) (ok_same ft) in
    rw (← size) (elements_filled (document_at levels) (document_framed levels) (document_filled levels) n _ _ count (rw length-take (omega arith)) et)
