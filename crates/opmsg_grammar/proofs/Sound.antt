-- Sections that are read are sections of the grammar.
-- Assumes nothing.
use Prim.Native.Nat.{ℕ, zero, suc, ◌+◌, ◌-◌, ◌≤◌, ◌<◌}
use mathlib.Core.Bool.{true}
use mathlib.Core.Path.{◌≡◌, refl, sym, ap, ◌∙◌}
use mathlib.Core.List.{List, [], ◌∷◌, ◌++◌, append_assoc, append-nil}
use native.Mathlib.Omega.{arith}
use lib.ListN.{length, get_or, take, drop, length-drop, take-append-drop}
use native.Mathlib.Nat.{zero-add}
use native.Mathlib.Numerals.{one-add, add-one}
use lib.Seq.{take-take, length-take-le, drop-cons}
use Rattle.wire.specs.Outcome.{ok}
use Rattle.wire.specs.Bytes.{Bytes, le32}
use Rattle.wire.specs.Walk.{Step, walk}
use Rattle.wire.proofs.Outcome.{ok_same, bound}
use Rattle.wire.proofs.Bytes.{bytes_drop, bytes_take}
use Rattle.wire.proofs.Walk.{walk_done, walk_step}
use Rattle.bson.specs.Document.{document_at, max_levels}
use Rattle.bson_grammar.proofs.Grammar.{sound}
use Rattle.bson_grammar.proofs.Texts.{none_before, document_long}
use Rattle.opmsg.specs.Flags.{knows}
use Rattle.opmsg.specs.Sections.{sequence_at, Parts, Run, next_document, section_at}
use Rattle.opmsg.proofs.SectionRead.{stated, name_length, documents_length, BodyRead, SequenceRead, SectionRead, a_body, a_sequence, section_read, section_steady}
use Rattle.message.specs.Append.{sequence_bytes}
use Rattle.message.proofs.Sequence.{name_of, documents_of, name_length_lem, documents_length_lem, sequence_bytes_lem}
use Rattle.opmsg_grammar.specs.Grammar.{Documents, Section, Sections, shown, listed}
use Rattle.opmsg.specs.declared.Edition.{Edition}
use Rattle.opmsg.specs.declared.Section as Shown

-- ---- documents back to back

record DocumentsRead (xs : List ℕ) (r t : Run) : Type 0 where
  documents : ℕ
  held : ℕ
  is : Documents xs documents held
  numbered : t.documents ≡ r.documents + documents
  counted : t.elements ≡ r.elements + held

no_documents : (r t : Run) → ok r ≡ ok t → DocumentsRead [] r t
no_documents r t h = rw (← ok_same h) (record { documents = 0; held = 0; is = Documents.none; numbered = omega arith; counted = omega arith })

documents_read : (turns at : ℕ) (xs : List ℕ) (r t : Run) → Bytes xs → length xs ≤ turns → walk next_document turns at xs r ≡ ok t → DocumentsRead xs r t
unfolding next_document
documents_read zero at [] r t b l h = no_documents r t (sym (walk_done next_document zero at r) ∙ h)
documents_read zero at (x ∷ xs) r t b l h = absurd (omega arith)
documents_read (suc turns) at [] r t b l h = no_documents r t (sym (walk_done next_document (suc turns) at r) ∙ h)
documents_read (suc turns) at (x ∷ xs) r t b l h =
    bound (next_document at (x ∷ xs) r) _ (sym (walk_step next_document turns at (x ∷ xs) r (omega arith)) ∙ h) λ one here rest.
    bound (document_at max_levels at (x ∷ xs) r.elements) _ here λ d ed fd.
    let i = sound at (x ∷ xs) r.elements d b ed in
    let some = rw (length-take-le d.size (x ∷ xs) i.fits) at (document_long i.is) in
    let j = documents_read turns (at + d.size) (drop d.size (x ∷ xs)) _ t (bytes_drop d.size (x ∷ xs) b) (rw length-drop (omega arith)) (rw (← ok_same fd) at rest) in
    record {
      documents = suc j.documents;
      held = i.held + j.held;
      is = rw take-append-drop at (Documents.more i.is j.is);
      numbered = omega (arith, j.numbered);
      counted = omega (arith, j.counted, i.counted);
    }

-- ---- one section

-- the section at the start of xs, which was read at a place
pub record SectionIs (e : Edition) (at : ℕ) (xs : List ℕ) (p : Parts) (one : Step Parts) : Type 0 where
  pub bytes : List ℕ
  pub held : ℕ
  pub same : bytes ≡ take one.size xs
  pub section : Section e bytes held
  pub added : one.state.sections ≡ p.sections ++ (shown at section ∷ [])
  pub counted : one.state.elements ≡ p.elements + held

same_sequence : (at : ℕ) {a b c d m n : ℕ} → a ≡ b → c ≡ d → m ≡ n → sequence_at at a c m ≡ sequence_at at b d n
same_sequence at i j k = rw (i, j, k)

module _ (e : Edition) (at : ℕ) (xs : List ℕ) (p : Parts) (one : Step Parts) (b : Bytes xs) (some : 0 < length xs) where
  front : (n k : ℕ) → get_or xs 0 0 ≡ k → take (1 + n) xs ≡ k ∷ take n (drop 1 xs)
  front n k i = rw one-add (ap (take (suc n)) (drop-cons xs 0 0 some) ∙ rw (i, add-one 0))

  body_is : get_or xs 0 0 ≡ 0 → BodyRead at xs p one → SectionIs e at xs p one
  unfolding shown
  body_is k r =
      let d = r.document in
      let i = sound (at + 1) (drop 1 xs) p.elements d (bytes_drop 1 xs b) r.read in
      let size = length-take-le d.size (drop 1 xs) i.fits in
      record {
        bytes = 0 ∷ take d.size (drop 1 xs);
        held = i.held;
        same = rw r.size (sym (front d.size 0 k));
        section = Section.body i.is;
        added = rw size r.added;
        counted = r.counted ∙ i.counted;
      }

  sequence_is : get_or xs 0 0 ≡ 1 → knows e 1 ≡ true → SequenceRead at xs p one → SectionIs e at xs p one
  unfolding shown le32 sequence_bytes
  sequence_is k known r =
      let n = name_length xs in
      let whole = r.whole in
      let length-name = name_length_lem xs r.least whole r.ended in
      let length-documents = documents_length_lem xs r.least whole r.ended in
      let i = documents_read (stated xs) (at + (n + 6)) (documents_of xs) _ r.run (bytes_take (documents_length xs) (drop (n + 6) xs) (bytes_drop (n + 6) xs b)) (rw length-documents (omega arith)) r.walked in
      let ended = rw (take-take n (stated xs - 4) (drop 5 xs) (omega (arith, r.ended))) at (none_before (take (stated xs - 4) (drop 5 xs))) in
      record {
        bytes = sequence_bytes (name_of xs) (documents_of xs);
        held = i.held;
        same = sequence_bytes_lem xs r.least whole r.ended b k ∙ rw r.size;
        section = Section.sequence (name_of xs) (rw known tt) (omega (arith, length-name, r.some)) ended r.text i.is;
        added = r.added ∙ ap (λ (q : Shown.Section). p.sections ++ (q ∷ [])) (same_sequence at (sym length-name) (sym length-documents) (i.numbered ∙ zero-add i.documents));
        counted = r.counted ∙ i.counted;
      }

  go : SectionRead e at xs p one → SectionIs e at xs p one
  go (a_body k r) = body_is k r
  go (a_sequence k known r) = sequence_is k known r

section_is : (e : Edition) (at : ℕ) (xs : List ℕ) (p : Parts) (one : Step Parts) → Bytes xs → 0 < length xs → section_at e at xs p ≡ ok one → SectionIs e at xs p one
section_is e at xs p one b some h = go e at xs p one b some (section_read e at xs p one h)

-- ---- sections back to back

pub record SectionsAre (e : Edition) (at : ℕ) (xs : List ℕ) (p t : Parts) : Type 0 where
  pub bytes : List ℕ
  pub held : ℕ
  pub same : bytes ≡ xs
  pub tree : Sections e bytes held
  pub added : t.sections ≡ p.sections ++ listed at tree
  pub counted : t.elements ≡ p.elements + held

none_are : (e : Edition) (at : ℕ) (p t : Parts) → ok p ≡ ok t → SectionsAre e at [] p t
unfolding listed
none_are e at p t h =
    rw (← ok_same h) (record {
      bytes = [];
      held = 0;
      same = refl;
      tree = Sections.none;
      added = sym (append-nil p.sections);
      counted = omega arith;
    })

more_are : (e : Edition) (at : ℕ) (xs : List ℕ) (p t : Parts) (one : Step Parts) (i : SectionIs e at xs p one)
    → SectionsAre e (at + length i.bytes) (drop one.size xs) one.state t → SectionsAre e at xs p t
unfolding listed
more_are e at xs p t one i j = record {
  bytes = i.bytes ++ j.bytes;
  held = i.held + j.held;
  same = rw (i.same, j.same) (take-append-drop one.size xs);
  tree = Sections.more i.section j.tree;
  added = j.added ∙ rw i.added (append_assoc p.sections (shown at i.section ∷ []) (listed (at + length i.bytes) j.tree));
  counted = omega (arith, j.counted, i.counted);
}

pub sections_are : (e : Edition) (turns at : ℕ) (xs : List ℕ) (p t : Parts) → Bytes xs → length xs ≤ turns → walk (section_at e) turns at xs p ≡ ok t → SectionsAre e at xs p t
sections_are e zero at [] p t b l h = none_are e at p t (sym (walk_done (section_at e) zero at p) ∙ h)
sections_are e zero at (x ∷ xs) p t b l h = absurd (omega arith)
sections_are e (suc turns) at [] p t b l h = none_are e at p t (sym (walk_done (section_at e) (suc turns) at p) ∙ h)
sections_are e (suc turns) at (x ∷ xs) p t b l h =
    bound (section_at e at (x ∷ xs) p) _ (sym (walk_step (section_at e) turns at (x ∷ xs) p (omega arith)) ∙ h) λ one here rest.
    let some = (section_steady e).advances at (x ∷ xs) p one here in
    let fits = (section_steady e).fits at (x ∷ xs) p one here in
    let i = section_is e at (x ∷ xs) p one b (omega arith) here in
    let long : length i.bytes ≡ one.size = ap length i.same ∙ length-take-le one.size (x ∷ xs) fits in
    more_are e at (x ∷ xs) p t one i
    (sections_are e turns (at + length i.bytes) (drop one.size (x ∷ xs)) one.state t (bytes_drop one.size (x ∷ xs) b) (rw length-drop (omega arith)) (rw long rest))
