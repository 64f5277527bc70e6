-- The sections of an accepted message stand in its bytes; one is its body, which elements fill, and the others are sequences.
-- Assumes nothing.
use Prim.Native.Nat.{ℕ, zero, suc, ◌+◌, ◌-◌, ◌≤◌, min}
use mathlib.Core.Path.{◌≡◌, refl, sym, ap, ◌∙◌}
use mathlib.Core.List.{List, [], ◌∷◌, ◌++◌}
use native.Mathlib.Omega.{arith}
use lib.ListN.{length, drop, length-append, length-drop, length-take}
use lib.Seq.{drop-drop}
use Rattle.wire.specs.Outcome.{ok}
use Rattle.wire.specs.Walk.{Step, walk}
use Rattle.wire.proofs.Outcome.{ok_same, bound}
use Rattle.wire.proofs.Walk.{walk_done, walk_step}
use Rattle.bson.specs.Document.{max_levels}
use Rattle.bson.proofs.Frame.{document_framed}
use Rattle.opmsg.specs.Layout.{sections_end, section_bytes}
use Rattle.opmsg.specs.Sections.{body_at, body_of, sequences_of, Parts, nothing, section_at}
use Rattle.opmsg.specs.Names.{part}
use Rattle.opmsg.specs.Read.{parts, read}
use Rattle.opmsg.specs.Inner.{Filled, none}
use Rattle.opmsg.specs.declared.Edition.{Edition}
use Rattle.opmsg.specs.declared.Section.{Section}
use Rattle.opmsg.specs.declared.View.{View}
use Rattle.opmsg.proofs.Accepted.{reads}
use Rattle.opmsg.proofs.Differ.{NamesWithin, within_more, within_append}
use Rattle.opmsg.proofs.SectionRead.{sequence_in, SectionRead, a_body, a_sequence, section_read, section_steady}
use Rattle.opmsg.proofs.Shown.{Started, started_append, body_behind, body_sequence}
use Rattle.opmsg_documents.proofs.Fill.{document_filled}
use Rattle.opmsg_sections.proofs.Gather.{sequences_stay, sequences_more}

-- sections in the first i bytes of xs: sequences, and one body at most, which never starts at 0
pub record Held (xs : List ℕ) (i : ℕ) (qs : List Section) : Type 0 where
  pub started : Started qs
  pub number : length qs ≡ length (sequences_of qs) + min 1 (body_of qs).start
  pub inside : ((body_of qs).start + 4 - 20) + ((body_of qs).length - 5) ≤ i
  pub filled : Filled (part xs ((body_of qs).start + 4) ((body_of qs).length - 5))
  pub names : NamesWithin i qs

held_none : (xs : List ℕ) → Held xs 0 []
unfolding body_of sequences_of part
held_none xs = record { started = tt; number = omega arith; inside = omega arith; filled = none; names = tt }

-- one section more
held_next : {e : Edition} (xs : List ℕ) (i : ℕ) {p : Parts} {one : Step Parts} → Held xs i p.sections → SectionRead e (20 + i) (drop i xs) p one
    → Held xs (i + one.size) one.state.sections
unfolding body_of part
held_next xs i {p} {one} k (a_body _ r) =
    let qs = p.sections in
    let b = body_at (20 + i) r.document.size in
    let f = document_framed max_levels (20 + i + 1) (drop 1 (drop i xs)) p.elements r.document r.read in
    let first = body_behind qs (b ∷ []) k.started r.first in
    let same : sequences_of (qs ++ (b ∷ [])) ≡ sequences_of qs = sequences_stay qs _ in
    let place : 20 + i + 1 + 4 - 20 ≡ i + 1 + 4 = omega arith in
    record {
      started = rw r.added (started_append qs (b ∷ []) k.started (omega arith, tt));
      number = rw (r.added, same, first, length-append) (omega (arith, k.number, r.first));
      inside = rw (r.added, first) (omega (arith, r.size, f.low));
      filled = rw (r.added, first, place) (rw (drop-drop 1 i xs, drop-drop 4 (i + 1) xs) at (document_filled max_levels _ _ _ r.document r.read));
      names = rw r.added (within_append _ qs (b ∷ []) (within_more i _ qs (omega arith) k.names) tt);
    }
held_next xs i {p} {one} k (a_sequence _ _ r) =
    let qs = p.sections in
    let q = sequence_in (20 + i) (drop i xs) r.run.documents in
    let same : body_of (qs ++ (q ∷ [])) ≡ body_of qs = body_sequence qs _ _ _ in
    let more : length (sequences_of (qs ++ (q ∷ []))) ≡ length (sequences_of qs) + 1 = sequences_more qs _ _ _ in
    record {
      started = rw r.added (started_append qs (q ∷ []) k.started tt);
      number = rw (r.added, more, same, length-append) (omega (arith, k.number));
      inside = rw (r.added, same) (omega (arith, k.inside));
      filled = rw (r.added, same) k.filled;
      names = rw r.added (within_append _ qs (q ∷ []) (within_more i _ qs (omega arith) k.names) (omega (arith, r.ended, r.size), tt));
    }

-- all that are read
module _ (e : Edition) (xs : List ℕ) where
  held_end : (turns i : ℕ) (p : Parts) {q : Parts} → [] ≡ drop i xs → i ≤ length xs → Held xs i p.sections → walk (section_at e) turns (20 + i) [] p ≡ ok q → Held xs (length xs) q.sections
  held_end turns i p j l k w =
      let end : length xs ≡ i = omega (arith, ap length j, length-drop i xs) in
      rw (← ok_same (sym (walk_done (section_at e) turns (20 + i) p) ∙ w), end) k

  held_walk : (turns i : ℕ) (zs : List ℕ) (p : Parts) {q : Parts} → zs ≡ drop i xs → i ≤ length xs → length zs ≤ turns → Held xs i p.sections
      → walk (section_at e) turns (20 + i) zs p ≡ ok q → Held xs (length xs) q.sections
  held_walk zero i [] p j l t k w = held_end zero i p j l k w
  held_walk zero i (z ∷ zs) p j l t k w = absurd (omega arith)
  held_walk (suc turns) i [] p j l t k w = held_end (suc turns) i p j l k w
  held_walk (suc turns) i (z ∷ zs) p j l t k w =
      bound (section_at e (20 + i) (z ∷ zs) p) _ (sym (walk_step (section_at e) turns (20 + i) (z ∷ zs) p (omega arith)) ∙ w) λ one here rest.
      let some = (section_steady e).advances (20 + i) (z ∷ zs) p one here in
      let fits = (section_steady e).fits (20 + i) (z ∷ zs) p one here in
      let place : 20 + i + one.size ≡ 20 + (i + one.size) = omega arith in
      held_walk turns (i + one.size) (drop one.size (z ∷ zs)) one.state (ap (drop one.size) j ∙ drop-drop one.size i xs) (omega (arith, ap length j, length-drop i xs))
      (rw length-drop (omega arith)) (held_next xs i k (rw j at (section_read e (20 + i) (z ∷ zs) p one here))) (rw place at rest)

pub accepted_held : (e : Edition) (s : List ℕ) (v : View) (h : read e s ≡ ok v) → Held (section_bytes s) (length (section_bytes s)) (reads h).sections.sections
unfolding parts
accepted_held e s v h =
    held_walk e (section_bytes s) (sections_end s) 0 (section_bytes s) nothing refl (omega arith) (unfold section_bytes in rw length-take (omega arith)) (held_none (section_bytes s)) (reads h).listed
