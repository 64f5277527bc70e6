-- Laws of names that must differ: marks that tell a text from those before, and one turn of `distinct`.
-- Assumes nothing.
use Prim.Native.Nat.{ℕ, ◌+◌, ◌/◌, ◌%◌, ◌^◌, ◌<◌}
use mathlib.Core.Bool.{Bool, true, false, ◌||◌, or-true}
use mathlib.Core.Path.{◌≡◌, refl, sym, ◌∙◌, ap}
use mathlib.Core.List.{List, [], ◌∷◌, ◌++◌, append-nil, append_assoc}
use native.Mathlib.Omega.{arith}
use lib.ListN.{length, get_or, take, drop, length-set}
use lib.Seq.{get_or-set_same, get_or-set_other}
use lib.Bits.{bit_and, bit_or}
use lib.Dec.{eqb}
use borrow.Author.Tests.{eqb-true, eqb-false, eq-eqb}
use Rattle.wire.specs.Outcome.{ok, refused}
use Rattle.wire.proofs.Outcome.{pass, stop}
use Rattle.opmsg.specs.Names.{Name, same_text, among, distinct, texts}
use Rattle.opmsg_body_names.specs.Inner.{slot_of, marked, marking, Marks}
use Rattle.opmsg_body_names.proofs.Marks.{holds_self, holds_more}
use Rattle.opmsg_body_names.proofs.Texts.{not_both, same_text_lem, among_cons, among_append, among_last, take_whole, drop_next, texts_next}

-- ---- marks

pub slot_small : (t : List ℕ) → slot_of t / 64 < 32
unfolding slot_of
slot_small t = omega arith

pub marks_none : (marks : List ℕ) → length marks ≡ 32 → Marks [] marks
marks_none marks h = record { size = h; shows = λ t h. unfold among in not_both refl h }

-- the word that one more mark changes
abbrev one_more : List ℕ → ℕ → ℕ
one_more marks slot = bit_or (get_or marks (slot / 64) 0) (2 ^ (slot % 64))

pub marking_size : (marks : List ℕ) (slot : ℕ) → length (marking marks slot) ≡ length marks
unfolding marking
marking_size marks slot = length-set marks (slot / 64) (one_more marks slot)

pub mark_made : (marks : List ℕ) (slot : ℕ) → slot / 64 < length marks → marked (marking marks slot) slot ≡ true
unfolding marked marking
mark_made marks slot h = rw (get_or-set_same marks (slot / 64) (one_more marks slot) 0 h) (eq-eqb _ _ (holds_self (get_or marks (slot / 64) 0) (2 ^ (slot % 64))))

-- a mark stays when another is made
pub mark_stays : (marks : List ℕ) (slot j : ℕ) → slot / 64 < length marks → marked marks j ≡ true → marked (marking marks slot) j ≡ true
unfolding marked marking
mark_stays marks slot j h m = go (eqb (j / 64) (slot / 64)) refl
  where
    go : (b : Bool) → eqb (j / 64) (slot / 64) ≡ b → marked (marking marks slot) j ≡ true
    go true e =
        let same : j / 64 ≡ slot / 64 = eqb-true _ _ e in
        rw (same, get_or-set_same marks (slot / 64) (one_more marks slot) 0 h)
        (eq-eqb _ _ (holds_more (get_or marks (slot / 64) 0) (2 ^ (slot % 64)) (2 ^ (j % 64)) (eqb-true (bit_and (get_or marks (slot / 64) 0) (2 ^ (j % 64))) (2 ^ (j % 64)) (rw same at m))))
    go false e = rw (get_or-set_other marks (slot / 64) (j / 64) (one_more marks slot) 0 (eqb-false _ _ e)) m

mark : {ts : List (List ℕ)} {marks : List ℕ} (x : List ℕ) → Marks ts marks → Marks (x ∷ ts) (marking marks (slot_of x))
mark {ts} {marks} x m =
    record {
      size = marking_size marks (slot_of x) ∙ m.size;
      shows = λ t h. go t (same_text t x) refl (sym (among_cons x ts t) ∙ h);
    }
  where
    inside : slot_of x / 64 < length marks
    inside = omega (arith, m.size, slot_small x)

    go : (t : List ℕ) (b : Bool) → same_text t x ≡ b → (same_text t x || among ts t) ≡ true → marked (marking marks (slot_of x)) (slot_of t) ≡ true
    go t true e h = rw (same_text_lem t x e) (mark_made marks (slot_of x) inside)
    go t false e h = mark_stays marks (slot_of x) (slot_of t) inside (m.shows t (rw e at h))

-- marks serve other texts that are all among these
marks_fewer : {ts us : List (List ℕ)} {marks : List ℕ} → ((t : List ℕ) → among us t ≡ true → among ts t ≡ true) → Marks ts marks → Marks us marks
marks_fewer e m = record { size = m.size; shows = λ t h. m.shows t (e t h) }

pub no_mark : {ts : List (List ℕ)} {marks : List ℕ} (t : List ℕ) → Marks ts marks → marked marks (slot_of t) ≡ false → among ts t ≡ false
no_mark {ts} t m h = go (among ts t) refl
  where
    go : (b : Bool) → among ts t ≡ b → among ts t ≡ false
    go true e = not_both h (m.shows t e)
    go false e = e

-- ---- the first k of the names ns pass no test, and differ from each other and from the texts of a base

pub record Met (number : ℕ) (test : List ℕ → Bool) (base : List (List ℕ)) (ns : List Name) (k : ℕ) (marks : List ℕ) : Type 0 where
  pub before : List (List ℕ)
  pub same : distinct number test base ns ≡ distinct number test before (drop k ns)
  pub those : (t : List ℕ) → among before t ≡ among (base ++ texts (take k ns)) t
  pub marked : Marks before marks

module _ (number : ℕ) (test : List ℕ → Bool) (base : List (List ℕ)) (ns : List Name) where
  pub met_none : {marks : List ℕ} → Marks base marks → Met number test base ns 0 marks
  unfolding texts
  met_none m = record { before = base; same = refl; those = λ t. rw (append-nil base); marked = m }

  module _ (k : ℕ) {marks : List ℕ} (m : Met number test base ns k marks) where
    -- a text without a mark is new
    pub met_unmarked : (t : List ℕ) → marked marks (slot_of t) ≡ false → among (base ++ texts (take k ns)) t ≡ false
    met_unmarked t h = sym (m.those t) ∙ no_mark t m.marked h

    -- the marks, and one more, serve the base
    pub met_base : (x : List ℕ) → Marks base (marking marks (slot_of x))
    met_base x = marks_fewer (λ t h. among_cons x m.before t ∙ rw (m.those t, among_append base (texts (take k ns)) t, h) (or-true (same_text t x))) (mark x m.marked)

    module _ (n : Name) (r : List Name) (next : drop k ns ≡ n ∷ r) where
      -- the next name is new
      pub met_next : among (base ++ texts (take k ns)) n.text ≡ false → test n.text ≡ false → Met number test base ns (k + 1) (marking marks (slot_of n.text))
      unfolding distinct
      met_next h t = record {
        before = n.text ∷ m.before;
        same = m.same ∙ rw (next, drop_next k ns next) (pass number n.place _ (m.those n.text ∙ h) ∙ pass number n.place _ t);
        those = λ t.
            among_cons n.text m.before t
            ∙ ap (λ (b : Bool). same_text t n.text || b) (m.those t)
            ∙ sym (among_cons n.text (base ++ texts (take k ns)) t)
            ∙ sym (among_last (base ++ texts (take k ns)) n.text t)
            ∙ rw (texts_next k ns next, append_assoc);
        marked = mark n.text m.marked;
      }

      -- the next name is there already
      pub met_again : among (base ++ texts (take k ns)) n.text ≡ true → distinct number test base ns ≡ refused number n.place
      unfolding distinct
      met_again h = m.same ∙ rw next (stop number n.place _ (m.those n.text ∙ h))

      -- the next name is new, and passes the test
      pub met_passing : among (base ++ texts (take k ns)) n.text ≡ false → test n.text ≡ true → distinct number test base ns ≡ refused number n.place
      unfolding distinct
      met_passing h t = m.same ∙ rw next (pass number n.place _ (m.those n.text ∙ h) ∙ stop number n.place _ t)

    -- no name is left
    pub met_all : drop k ns ≡ [] → distinct number test base ns ≡ ok tt
    unfolding distinct
    met_all e = m.same ∙ rw e

    pub met_marks : drop k ns ≡ [] → Marks (base ++ texts ns) marks
    met_marks e = marks_fewer (λ t h. m.those t ∙ rw (take_whole k ns e) h) m.marked
