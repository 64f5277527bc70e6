-- Sections of the grammar are read, one behind the other, where a body or a sequence may still come and the limits are kept.
-- Assumes nothing.
use Prim.Native.Nat.{ℕ, zero, suc, ◌+◌, ◌-◌, ◌^◌, ◌≤◌, ◌<◌}
use mathlib.Core.Bool.{Bool, true, false, not}
use mathlib.Core.Path.{◌≡◌, refl, sym, ap, ◌∙◌}
use mathlib.Core.List.{List, [], ◌∷◌, ◌++◌, append_assoc, append-nil}
use native.Mathlib.Omega.{arith}
use native.Mathlib.Nat.{zero-add, add-zero}
use native.Mathlib.Numerals.{one-add}
use lib.ListN.{length, take, drop, length-append}
use lib.Seq.{take_at, drop_at, drop-append_seam}
use lib.Dec.{T}
use borrow.Author.Tests.{le-ltb, lt-leb, ne_eqb}
use Rattle.wire.specs.Outcome.{ok}
use Rattle.wire.specs.Bytes.{word, le32, until_zero}
use Rattle.wire.specs.Walk.{step, walk}
use Rattle.wire.proofs.Outcome.{pass, go_on}
use Rattle.wire.proofs.Bytes.{word_le32, not_under}
use Rattle.wire.proofs.Walk.{walk_done, walk_step}
use Rattle.utf8.specs.Utf8.{Utf8}
use Rattle.utf8.proofs.Longest.{text_is_utf8}
use Rattle.bson_elements.specs.Element.{max_elements}
use Rattle.bson.specs.Document.{max_levels}
use Rattle.bson_grammar.specs.Grammar.{◌∈◌, ZeroEnded, Document}
use Rattle.bson_grammar.proofs.Grammar.{complete}
use Rattle.bson_grammar.proofs.Texts.{document_long, until_ended}
use Rattle.opmsg.specs.Flags.{knows}
use Rattle.opmsg.specs.Sections.{max_sequences, body_at, sequence_at, body_of, sequences_of, Parts, Run, next_document, body_section, sequence_run, sequence_named, sequence_section, section_of, section_at}
use Rattle.message.specs.Append.{sequence_bytes}
use Rattle.message.specs.Moving.{placed}
use Rattle.message.proofs.Anywhere.{Allowed}
use Rattle.message.proofs.Chunks.{Ready, ready_allowed, ready_next, count_next}
use Rattle.opmsg_grammar.specs.Grammar.{Documents, Section, Sections, shown, listed}
use Rattle.opmsg.specs.declared.Edition.{Edition}
use Rattle.opmsg.specs.declared.Section as Shown

-- ---- documents back to back

abbrev run : ℕ → ℕ → Run
run d n = record { documents = d; elements = n }

same_run : {a b m n : ℕ} → a ≡ b → m ≡ n → run a m ≡ run b n
same_run i j = rw (i, j)

pub documents_complete : {xs : List ℕ} {d n : ℕ} → Documents xs d n → (turns at c m : ℕ) → length xs ≤ turns → m + n ≤ max_elements
    → walk next_document turns at xs (run c m) ≡ ok (run (c + d) (m + n))
unfolding next_document
documents_complete Documents.none turns at c m l h = walk_done next_document turns at (run c m) ∙ rw (add-zero, add-zero)
documents_complete (Documents.more {xs} {ys} d ds) zero at c m l h = absurd (omega (arith, document_long d, length-append xs ys))
documents_complete (Documents.more {d = j} {m = i} {n} {xs} {ys} d ds) (suc turns) at c m l h =
    let some = document_long d in
    let long = length-append xs ys in
    walk_step next_document turns at (xs ++ ys) (run c m) (omega arith)
    ∙ go_on _ (go_on _ (complete at xs ys m i d (omega arith)))
    ∙ rw (drop-append_seam xs ys) (documents_complete ds turns (at + length xs) (1 + c) (m + i) (omega arith) (omega arith) ∙ ap ok (same_run (omega arith) (omega arith)))

-- ---- one section

-- what reading a section gives, at a place and behind others
abbrev given : (p : Parts) (q : Shown.Section) (held : ℕ) → Parts
given p q held = record { sections = p.sections ++ (q ∷ []); elements = p.elements + held }

-- the bytes of a sequence, as they are read
module _ (text xs rest : List ℕ) (small : length text + 5 + length xs < 2 ^ 31) where
  abbrev size : ℕ
  size = length text + 5 + length xs

  abbrev whole : List ℕ
  whole = sequence_bytes text xs ++ rest

  whole_length : length whole ≡ 1 + size + length rest
  unfolding sequence_bytes le32
  whole_length = simp length-append (omega arith)

  whole_size : word (drop 1 whole) ≡ size
  unfolding sequence_bytes
  whole_size = rw (append_assoc (le32 size) (text ++ (0 ∷ xs)) rest) (word_le32 size _ (omega arith))

  behind_size : take (size - 4) (drop 5 whole) ≡ text ++ (0 ∷ xs)
  unfolding sequence_bytes le32
  behind_size = take_at (text ++ (0 ∷ xs)) rest (size - 4) (length-append text (0 ∷ xs) ∙ omega arith)

  whole_text : take (length text) (drop 5 whole) ≡ text
  unfolding sequence_bytes le32
  whole_text = ap (take (length text)) (append_assoc text (0 ∷ xs) rest) ∙ take_at text _ (length text) refl

  whole_documents : take (size - (length text + 5)) (drop (length text + 6) whole) ≡ xs
  unfolding sequence_bytes le32
  whole_documents =
      let front : List ℕ = 1 ∷ (le32 size ++ (text ++ (0 ∷ []))) in
      let parts : whole ≡ front ++ (xs ++ rest) = ap (λ (l : List ℕ). 1 ∷ (le32 size ++ l)) (append_assoc text (0 ∷ xs) rest ∙ sym (append_assoc text (0 ∷ []) (xs ++ rest))) in
      rw (parts, drop_at front (xs ++ rest) (length text + 6) (simp length-append (omega arith))) (take_at xs rest (size - (length text + 5)) (omega arith))

not_true : (b : Bool) → T b → not b ≡ false
not_true true h = refl
not_true false h = absurd h

zero_first : (text xs : List ℕ) → ¬ (0 ∈ text) → Utf8 text → until_zero (text ++ (0 ∷ xs)) ≡ length text
zero_first text xs z u =
    let e = (until_ended xs (ZeroEnded.ended text z u)).0 in
    omega (arith, rw (append_assoc text (0 ∷ []) xs, length-append) at e)

module _ (e : Edition) (at : ℕ) (rest : List ℕ) (p : Parts) where
  body_complete : {xs : List ℕ} {n : ℕ} → Document max_levels xs n → (body_of p.sections).start ≡ 0 → p.elements + n ≤ max_elements
      → section_at e at (0 ∷ xs ++ rest) p ≡ step (1 + length xs) (given p (body_at at (length xs)) n)
  unfolding section_at section_of body_section knows
  body_complete {xs} {n} d first l =
      pass 10 at _ refl ∙ pass 11 at _ (le-ltb 0 (body_of p.sections).start (omega arith)) ∙ go_on _ (complete (at + 1) xs rest p.elements n d l)

  sequence_complete : {xs text : List ℕ} {d n : ℕ} → T (knows e 1) → 0 < length text → ¬ (0 ∈ text) → Utf8 text → Documents xs d n → length text + 5 + length xs < 2 ^ 31
      → length (sequences_of p.sections) < max_sequences → p.elements + n ≤ max_elements
      → section_at e at (sequence_bytes text xs ++ rest) p ≡ step (1 + (length text + 5 + length xs)) (given p (sequence_at at (length text) (length xs) d) n)
  unfolding section_at section_of sequence_section sequence_named sequence_run sequence_bytes
  sequence_complete {xs} {text} {d} {n} known some z u ds small room l =
      let w = length text + 5 + length xs in
      let all : List ℕ = sequence_bytes text xs ++ rest in
      let long = whole_length text xs rest small in
      let first = zero_first text xs z u in
      let left : w - (length text + 5) ≡ length xs = omega arith in
      pass 10 at _ (not_true (knows e 1) known)
      ∙ pass 14 at _ (lt-leb max_sequences (length (sequences_of p.sections)) room)
      ∙ pass 12 (at + 1) _ (le-ltb (length all) 5 (omega arith))
      ∙ rw (whole_size text xs rest small, behind_size text xs rest small, first, whole_text text xs rest small, whole_documents text xs rest small)
      (pass 12 (at + 1) _ (not_under 5 w (omega arith) small)
      ∙ pass 12 (at + 1) _ (le-ltb (length all) (1 + w) (omega arith))
      ∙ pass 13 (at + 5) _ (ne_eqb (length text) 0 (λ e. omega arith))
      ∙ pass 13 (at + 5) _ (lt-leb (w - 4) (length text) (omega arith))
      ∙ go_on _ ((text_is_utf8.accepted (at + 5) text).1 u)
      ∙ go_on _ (documents_complete ds w (at + (length text + 6)) 0 p.elements (omega arith) l)
      ∙ rw (zero-add d, left))

-- the bytes of a sequence, as the grammar and as append has them
pub sequence_form : (text xs : List ℕ) → 1 ∷ le32 (length text + 5 + length xs) ++ text ++ 0 ∷ xs ≡ sequence_bytes text xs
unfolding sequence_bytes le32
sequence_form text xs = refl

pub sequence_length : (text xs : List ℕ) → length (1 ∷ le32 (length text + 5 + length xs) ++ text ++ 0 ∷ xs) ≡ 1 + (length text + 5 + length xs)
unfolding le32
sequence_length text xs = simp length-append (omega arith)

pub section_long : {e : Edition} {xs : List ℕ} {n : ℕ} → Section e xs n → 0 < length xs
section_long (Section.body d) = omega arith
section_long (Section.sequence {xs} text k some z u ds) = omega (arith, sequence_length text xs)

pub shown_placed : {e : Edition} {xs : List ℕ} {n : ℕ} (at : ℕ) (s : Section e xs n) → placed at (shown at s) ≡ shown at s
unfolding shown placed
shown_placed at (Section.body d) = refl
shown_placed at (Section.sequence text k some z u ds) = refl

section_complete : {e : Edition} {xs : List ℕ} {n : ℕ} (s : Section e xs n) → length xs < 2 ^ 31 → (at : ℕ) (rest : List ℕ) (p : Parts) → Allowed (shown at s) p.sections
    → p.elements + n ≤ max_elements → section_at e at (xs ++ rest) p ≡ step (length xs) (given p (shown at s) n)
unfolding shown
section_complete {e} (Section.body d) small at rest p a l = rw one-add at (body_complete e at rest p d a l)
section_complete {e} (Section.sequence {d} {n} {xs} text k some z u ds) small at rest p a l =
    let long = sequence_length text xs in
    ap (λ (ys : List ℕ). section_at e at (ys ++ rest) p) (sequence_form text xs)
    ∙ sequence_complete e at rest p k (omega arith) z u ds (omega arith) a l
    ∙ ap (λ (i : ℕ). step i (given p (sequence_at at (length text) (length xs) d) n)) (sym long)

-- ---- sections back to back

pub sections_complete : {e : Edition} {xs : List ℕ} {n : ℕ} (tree : Sections e xs n) (turns at : ℕ) (p : Parts) → length xs ≤ turns → length xs < 2 ^ 31
    → Ready p.sections (listed at tree) → length (sequences_of p.sections) + length (sequences_of (listed at tree)) ≤ max_sequences → p.elements + n ≤ max_elements
    → walk (section_at e) turns at xs p ≡ ok (record { sections = p.sections ++ listed at tree; elements = p.elements + n })
unfolding listed
sections_complete {e} Sections.none turns at p t small r k l = walk_done (section_at e) turns at p ∙ rw (append-nil p.sections, add-zero p.elements)
sections_complete (Sections.more {xs} {ys} s ss) zero at p t small r k l = absurd (omega (arith, section_long s, length-append xs ys))
sections_complete {e} (Sections.more {m} {n} {xs} {ys} s ss) (suc turns) at p t small r k l =
    let some = section_long s in
    let long = length-append xs ys in
    let q = shown at s in
    let qs = listed (at + length xs) ss in
    let total : p.elements + m + n ≡ p.elements + (m + n) = omega arith in
    let next : Parts = record { sections = p.sections ++ (q ∷ []); elements = p.elements + m } in
    walk_step (section_at e) turns at (xs ++ ys) p (omega arith)
    ∙ go_on _ (section_complete s (omega arith) at ys p (ready_allowed p.sections q qs r k) (omega arith))
    ∙ rw (drop-append_seam xs ys, ← append_assoc p.sections (q ∷ []) qs, ← total) (sections_complete ss turns (at + length xs) next (omega arith) (omega arith)
    (rw (shown_placed at s) at (ready_next p.sections at q qs r)) (rw (shown_placed at s) at (count_next p.sections at q qs k)) (omega arith))
