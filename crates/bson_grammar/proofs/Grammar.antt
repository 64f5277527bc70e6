-- The reader of `specs/Document.antt` and the grammar of `specs/Grammar.antt` agree, and what follows from that.
-- Assumes nothing.
use Prim.Native.Nat.{ℕ, ◌+◌, ◌≤◌}
use mathlib.Core.Path.{◌≡◌, refl, sym, ap, ◌∙◌}
use mathlib.Core.List.Memᴰ
use mathlib.Core.List.{List, [], ◌∷◌, ◌++◌}
use native.Mathlib.Omega.{arith}
use lib.ListN.{length, take, drop, take-append-drop}
use lib.Seq.{length-take-le, take-append_seam}
use Rattle.wire.specs.Outcome.{ok}
use Rattle.wire.specs.Bytes.{Bytes, le32, until_zero}
use Rattle.wire.specs.Walk.{Step, step}
use Rattle.wire.proofs.Outcome.{ok_same}
use Rattle.utf8.specs.Utf8.{forms}
use Rattle.utf8.specs.Text.{starts, character_of, characters_of, well_formed}
use Rattle.utf8.proofs.Longest.{text_is_utf8}
use Rattle.bson_elements.specs.Element.{max_elements}
use Rattle.bson.specs.Document.{document_at, max_levels}
use Rattle.bson_grammar.specs.Grammar.{Plain, Document, Elements, Element, Value}
use Rattle.bson_grammar.specs.Reading.{Read, Exact}
use Rattle.bson_grammar.proofs.Texts.{zero_ended}
use Rattle.bson_grammar.proofs.Sound.{document_sound}
use Rattle.bson_grammar.proofs.Complete.{same_step, document_complete}

-- A document is read exactly when the grammar has it, and its size and its number of elements are then the grammar's.
pub agree : (levels : ℕ) → Exact (Document levels) (document_at levels)
agree levels at xs count r b = (document_sound levels at xs count r b, back)
  where
    back : Read (Document levels) xs count r → document_at levels at xs count ≡ ok r
    back d =
        let answer = document_complete levels at (take r.size xs) (drop r.size xs) count d.held d.is (omega (arith, d.counted, d.limited)) in
        (rw take-append-drop at answer) ∙ same_step (length-take-le r.size xs d.fits) (sym d.counted)

-- what is read is a document
pub sound : (at : ℕ) (xs : List ℕ) (count : ℕ) (r : Step ℕ) → Bytes xs → document_at max_levels at xs count ≡ ok r → Read (Document max_levels) xs count r
sound at xs count r b = (agree max_levels at xs count r b).0

-- a document is read, whatever follows it
pub complete : (at : ℕ) (xs rest : List ℕ) (count held : ℕ) → Document max_levels xs held → count + held ≤ max_elements
    → document_at max_levels at (xs ++ rest) count ≡ step (length xs) (count + held)
complete at xs rest count held d h = document_complete max_levels at xs rest count held d (omega arith)

-- no bytes begin with two documents, and a document's bytes settle how many elements it holds
pub unambiguous : {k m n : ℕ} {xs ys : List ℕ} (a b : List ℕ) → Document k xs m → Document k ys n → m ≤ max_elements → n ≤ max_elements
    → xs ++ a ≡ ys ++ b → (xs ≡ ys) × (m ≡ n)
unambiguous {k} {m} {n} {xs} {ys} a b d e hd he same =
    let p = document_complete k 0 xs a 0 m d (omega arith) in
    let q = rw (← same) at (document_complete k 0 ys b 0 n e (omega arith)) in
    let one = ok_same (sym p ∙ q) in
    let size : length xs ≡ length ys = ap (λ (r : Step ℕ). r.size) one in
    (sym (take-append_seam xs a) ∙ rw (same, size) (take-append_seam ys b), omega (arith, ap (λ (r : Step ℕ). r.state) one))

-- the body of document 01's PING
ping : Document 1 (0x0F ∷ 0 ∷ 0 ∷ 0 ∷ 0x10 ∷ 0x70 ∷ 0x69 ∷ 0x6E ∷ 0x67 ∷ 0 ∷ 1 ∷ 0 ∷ 0 ∷ 0 ∷ 0 ∷ []) 1
unfolding le32 until_zero forms starts character_of characters_of well_formed
ping =
    let text = (text_is_utf8.whole (0x70 ∷ 0x69 ∷ 0x6E ∷ 0x67 ∷ [])).0 refl in
    let name = zero_ended (0x70 ∷ 0x69 ∷ 0x6E ∷ 0x67 ∷ 0 ∷ []) (omega arith) text in
    let value = Plain.four {t = 0x10} {xs = 1 ∷ 0 ∷ 0 ∷ 0 ∷ []} (Memᴰ.head refl) refl in
    Document.document {k = 0} (Elements.more (Element.element name (Value.plain value)) Elements.none) (omega arith)
