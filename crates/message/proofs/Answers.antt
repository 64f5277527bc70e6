-- What any edition answers to a message that another accepts: it goes by the bits and the kinds that it knows.
-- Assumes nothing.
use Prim.Native.Nat.{ℕ, zero, suc, ◌+◌, ◌-◌}
use mathlib.Core.Bool.{Bool, true, false, not}
use mathlib.Core.Path.{◌≡◌, refl, sym, ap, ◌∙◌}
use mathlib.Core.List.{List, [], ◌∷◌, ◌++◌, append_assoc, append-nil}
use native.Mathlib.Omega.{arith}
use lib.ListN.{length, drop, replicate}
use lib.Dec.{T}
use borrow.Author.Tests.{not-false}
use Rattle.wire.specs.Outcome.{Outcome, ok, refused, refuse, ◌>>=◌}
use Rattle.wire.specs.Walk.{Step, walk}
use Rattle.wire.proofs.Outcome.{ok_same, went, passed, pass, stop, bound, go_on, halt}
use Rattle.wire.proofs.Walk.{walk_step}
use Rattle.opmsg.specs.Flags.{kept, all_known, knows}
use Rattle.opmsg.specs.Layout.{flag_word, sections_end, section_bytes}
use Rattle.opmsg.specs.Sections.{max_sections, place_of, Parts, nothing, section_at}
use Rattle.opmsg.specs.View.{view_of, sections_of}
use Rattle.opmsg.specs.Read.{parts, read}
use Rattle.opmsg.proofs.SectionRead.{kind_of, section_read, section_other, section_added}
use Rattle.opmsg.proofs.Shown.{nones, view_sections}
use Rattle.opmsg.proofs.Accepted.{Reads, reads, bits_refused, sections_refused, accepted}
use Rattle.message.specs.Editions.{knows_kind, KnowsKinds, with_flags}
use Rattle.opmsg.specs.declared.Edition.{Edition}
use Rattle.opmsg.specs.declared.Section.{Section}
use Rattle.opmsg.specs.declared.Section.TheVariants.{None, Body, Sequence}
use Rattle.opmsg.specs.declared.View.{View}

-- refuse the first section of a kind that the edition doesn't know
unfoldable pub kinds_known : Edition → List Section → Outcome (Unit {0})
kinds_known e [] = ok tt
kinds_known e (q ∷ qs) = do
  _ ← refuse 10 (place_of q) (not (knows_kind e q))
  kinds_known e qs

-- an edition knows a section by its kind
pub knows_kind_lem : (e : Edition) (q : Section) → knows_kind e q ≡ knows e (kind_of q)
unfolding knows_kind kind_of knows
knows_kind_lem e None = refl
knows_kind_lem e (Body range) = refl
knows_kind_lem e (Sequence identifier documents number) = refl

-- the kinds of sections are known where none of them is refused
pub kinds_known_lem : (e : Edition) (qs : List Section) → KnowsKinds e qs → kinds_known e qs ≡ ok tt
unfolding kinds_known ◌>>=◌ refuse
kinds_known_lem e [] k = refl
kinds_known_lem e (q ∷ qs) k = go (knows_kind e q) k.0 (kinds_known_lem e qs k.1)
  where
    go : (b : Bool) → T b → kinds_known e qs ≡ ok tt → (refuse 10 (place_of q) (not b) >>= λ _. kinds_known e qs) ≡ ok tt
    go true t h = h
    go false t h = absurd t

known_kinds : (e : Edition) (qs : List Section) {u : Unit {0}} → kinds_known e qs ≡ ok u → KnowsKinds e qs
unfolding kinds_known
known_kinds e [] h = tt
known_kinds e (q ∷ qs) h =
    let c = passed _ _ _ _ h in
    (rw (not-false (knows_kind e q) c.0) tt, known_kinds e qs c.1)

-- another edition walks through the same sections, as far as it knows their kinds
one_section : (e : Edition) (b : Bool) (at : ℕ) (q : Section) (qs : List Section) (one : Step Parts) (t : Parts) (f : Step Parts → Outcome Parts)
    → place_of q ≡ at → knows_kind e q ≡ b → f one ≡ (kinds_known e qs >>= λ _. ok t)
    → ((refuse 10 at (not b) >>= λ _. ok one) >>= f) ≡ (kinds_known e (q ∷ qs) >>= λ _. ok t)
unfolding ◌>>=◌ refuse kinds_known
one_section e true at q qs one t f i j k = rw (j, k)
one_section e false at q qs one t f i j k = rw (j, i)

pub record Other (other : Edition) (turns at : ℕ) (xs : List ℕ) (p t : Parts) : Type 0 where
  pub sections : List Section
  pub behind : t.sections ≡ p.sections ++ sections
  pub answer : walk (section_at other) turns at xs p ≡ (kinds_known other sections >>= λ _. ok t)

same_end : (other : Edition) (turns at : ℕ) (xs : List ℕ) (p t : Parts) → walk (section_at other) turns at xs p ≡ ok p → ok p ≡ ok t → Other other turns at xs p t
unfolding ◌>>=◌ kinds_known
same_end other turns at xs p t here h = rw (← ok_same h) (record { sections = []; behind = sym (append-nil p.sections); answer = here })

pub walk_other : (e other : Edition) (turns at : ℕ) (xs : List ℕ) (p t : Parts) → walk (section_at e) turns at xs p ≡ ok t → Other other turns at xs p t
unfolding walk
walk_other e other zero at xs p t h = same_end other zero at xs p t refl h
walk_other e other (suc turns) at [] p t h = same_end other (suc turns) at [] p t refl h
walk_other e other (suc turns) at (x ∷ xs) p t h =
    bound (section_at e at (x ∷ xs) p) _ (sym (walk_step (section_at e) turns at (x ∷ xs) p (omega arith)) ∙ h) λ one here rest.
    let a = section_added (section_read e at (x ∷ xs) p one here) in
    let o = walk_other e other turns (at + one.size) (drop one.size (x ∷ xs)) one.state t rest in
    record {
      sections = a.section ∷ o.sections;
      behind = o.behind ∙ ap (λ (l : List Section). l ++ o.sections) a.behind ∙ append_assoc p.sections (a.section ∷ []) o.sections;
      answer =
          walk_step (section_at other) turns at (x ∷ xs) p (omega arith) ∙ rw (section_other e at (x ∷ xs) p one here other)
          (one_section other (knows other x) at a.section o.sections one t _ a.place (knows_kind_lem other a.section ∙ ap (knows other) a.kind) o.answer);
    }

-- what says none is not refused
kinds_nones : (e : Edition) (n : ℕ) (qs : List Section) → kinds_known e (qs ++ replicate n None) ≡ kinds_known e qs
unfolding kinds_known knows_kind ◌>>=◌ refuse
kinds_nones e zero [] = refl
kinds_nones e (suc n) [] = kinds_nones e n []
kinds_nones e n (q ∷ qs) = rw (kinds_nones e n qs)

-- the sections that an accepted message was walked through
module _ {e : Edition} {s : List ℕ} {v : View} (r : Reads e s v) where
  pub section_list : sections_of v ≡ r.sections.sections ++ nones (length r.sections.sections)
  section_list = ap sections_of (sym r.view) ∙ view_sections e s r.sections

  other_parts : (other : Edition) → parts other s ≡ (kinds_known other (sections_of v) >>= λ _. ok r.sections)
  unfolding parts
  other_parts other =
      let o = walk_other e other (sections_end s) 20 (section_bytes s) nothing r.sections r.listed in
      let nones = kinds_nones other (max_sections - length r.sections.sections) r.sections.sections in
      let same : kinds_known other (sections_of v) ≡ kinds_known other o.sections = ap (kinds_known other) section_list ∙ nones ∙ ap (kinds_known other) o.behind in
      rw same o.answer

  other_view : (other : Edition) → view_of other s r.sections ≡ with_flags v (kept other.bits (flag_word s))
  unfolding view_of with_flags
  other_view other = rw (← r.view)

-- what another edition answers
pub read_answer : (a b : Edition) (s : List ℕ) (v : View) → read a s ≡ ok v
    → read b s ≡ (refuse 8 16 (not (all_known 16 b.bits (flag_word s))) >>= λ _. kinds_known b (sections_of v) >>= λ _. ok (with_flags v (kept b.bits (flag_word s))))
read_answer a b s v h = go (not (all_known 16 b.bits (flag_word s))) (kinds_known b (sections_of v)) refl refl
  where
    go : (t : Bool) (o : Outcome (Unit {0})) → not (all_known 16 b.bits (flag_word s)) ≡ t → kinds_known b (sections_of v) ≡ o
        → read b s ≡ (refuse 8 16 t >>= λ _. o >>= λ _. ok (with_flags v (kept b.bits (flag_word s))))
    go true o i j = bits_refused b s (reads h).sound i ∙ sym (stop 8 16 _ refl)
    go false (ok u) i j =
        let r = reads h in
        accepted b s r.sound i r.sections (other_parts r b ∙ go_on _ j) r.body r.differ ∙ ap ok (other_view r b) ∙ sym (pass 8 16 _ refl ∙ go_on _ refl)
    go false (refused number place) i j =
        let r = reads h in
        sections_refused b s r.sound i (other_parts r b ∙ halt _ j) ∙ sym (pass 8 16 _ refl ∙ halt _ refl)

-- an edition that accepts a message knows the kinds of its sections
pub accepts_kinds : (a b : Edition) (s : List ℕ) (v w : View) → read a s ≡ ok v → read b s ≡ ok w → KnowsKinds b (sections_of v)
accepts_kinds a b s v w h k =
    let c = passed _ _ _ _ (sym (read_answer a b s v h) ∙ k) in
    known_kinds b (sections_of v) (went _ _ c.1).1
