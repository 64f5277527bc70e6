-- Laws of the names of elements: one after the other, and whether a text is one of them.
-- Assumes nothing.
use Prim.Native.Nat.{ℕ, ◌+◌, ◌-◌, ◌/◌, ◌≤◌, ◌<◌}
use mathlib.Core.Bool.{Bool, true, false, ◌||◌, or-true, or-false}
use mathlib.Core.Path.{◌≡◌, refl, sym, ◌∙◌, ap}
use mathlib.Core.List.{List, [], ◌∷◌}
use native.Mathlib.Omega.{arith}
use lib.ListN.{length, get_or, take, drop, length-drop, drop_of_length-le}
use lib.Seq.{drop-cons, drop-drop, take-nil}
use Rattle.wire.specs.Outcome.{ok, refused}
use Rattle.bson_elements.specs.Element.{element_size}
use Rattle.opmsg.specs.Names.{same_text, among, never, distinct, element_names, texts, name_text, names_of}
use Rattle.opmsg.specs.Dotted.{until_dot, found}
use Rattle.opmsg.specs.Inner.{Filled, Flat}
pub use Rattle.opmsg_element_names.proofs.Names.{names_turns, names_of_lem, all_names}
use Rattle.opmsg_element_names.proofs.Names.{filled_next, name_at, names_end, names_next}
use Rattle.opmsg_element_names.specs.Inner.{Read}
use Rattle.opmsg_dotted.proofs.Follow.{found_none, found_passing}
use Rattle.opmsg_body_names.specs.Inner.{slot_of, marked, marking, Marks}
use Rattle.opmsg_body_names.proofs.Texts.{same_text_lem, among_cons, take_cons, drop_next, texts_take}
use Rattle.opmsg_body_names.proofs.Distinct.{slot_small, mark_made, mark_stays, marking_size, marks_none, Met, met_none, met_unmarked, met_next, met_again, met_all, met_marks}

-- ---- in code: an element starts at place i of xs, and so many turns are left

pub record Reached (xs : List ℕ) (i turns : ℕ) : Type 0 where
  pub within : i ≤ length xs
  pub enough : length xs - i ≤ turns
  pub filled : Filled (drop i xs)

reached_none : (xs : List ℕ) → Filled xs → Reached xs 0 (length xs)
reached_none xs f = record { within = omega arith; enough = omega arith; filled = f }

module _ (xs : List ℕ) (i turns : ℕ) (r : Reached xs i turns) where
  reached_end : (at : ℕ) → length xs ≤ i → element_names turns at (drop i xs) ≡ []
  reached_end at h = rw (drop_of_length-le xs h) (names_end turns at)

  module _ (inside : i < length xs) where
    some : 0 < length (drop i xs)
    some = rw (length-drop i xs) (omega arith)

    -- the element at place i was read
    pub reached_read : Read xs i
    reached_read = let p = filled_next r.filled some in (p.0, p.1)

    module _ (end : ℕ) (e : end ≡ i + element_size (drop i xs)) where
      rest : drop (element_size (drop i xs)) (drop i xs) ≡ drop end xs
      rest = rw (drop-drop, e)

      reached_names : (at : ℕ) → element_names turns at (drop i xs) ≡ name_at at (drop i xs) ∷ element_names (turns - 1) (at + (end - i)) (drop end xs)
      reached_names at =
          let place : at + element_size (drop i xs) ≡ at + (end - i) = omega arith in
          names_next turns at (drop i xs) (omega (arith, r.enough)) some ∙ rw (place, rest)

      pub reached_next : Reached xs end (turns - 1)
      reached_next =
          let p = filled_next r.filled some in
          record { within = omega (arith, p.1, length-drop i xs); enough = omega (arith, r.enough, p.0); filled = rw (← rest) p.2 }

-- ---- a text is looked for among the first k names: it is among the next `left` of those from place i on

pub record Sought (xs : List ℕ) (k : ℕ) (text : List ℕ) (i left : ℕ) : Type 0 where
  pub turns : ℕ
  pub at : ℕ
  pub reached : Reached xs i turns
  pub same : among (take k (names_of xs)) text ≡ among (take left (texts (element_names turns at (drop i xs)))) text

pub sought_none : (xs : List ℕ) (k : ℕ) (text : List ℕ) → Filled xs → Sought xs k text 0 k
unfolding names_of
sought_none xs k text f = record { turns = length xs; at = 0; reached = reached_none xs f; same = refl }

module _ (xs : List ℕ) (k : ℕ) (text : List ℕ) (i left : ℕ) (s : Sought xs k text i left) where
  pub sought_end : length xs ≤ i → among (take k (names_of xs)) text ≡ false
  sought_end h = s.same ∙ rw (reached_end xs i s.turns s.reached s.at h) (unfold texts among in ap (λ (l : List (List ℕ)). among l text) (take-nil left))

  pub sought_all : left ≡ 0 → among (take k (names_of xs)) text ≡ false
  unfolding among
  sought_all h = s.same ∙ rw h

  module _ (inside : i < length xs) (any : 0 < left) where
    -- the next name is compared, and then the rest
    next : (end : ℕ) → end ≡ i + element_size (drop i xs)
        → among (take k (names_of xs)) text ≡ among (name_text (drop i xs) ∷ take (left - 1) (texts (element_names (s.turns - 1) (s.at + (end - i)) (drop end xs)))) text
    unfolding texts
    next end e = s.same ∙ rw (reached_names xs i s.turns s.reached inside end e s.at, take_cons left (name_text (drop i xs)) (texts (element_names (s.turns - 1) (s.at + (end - i)) (drop end xs))) any)

    pub sought_found : same_text text (name_text (drop i xs)) ≡ true → among (take k (names_of xs)) text ≡ true
    sought_found h = next _ refl ∙ among_cons _ _ _ ∙ rw h

    pub sought_next : (end : ℕ) → end ≡ i + element_size (drop i xs) → same_text text (name_text (drop i xs)) ≡ false → Sought xs k text end (left - 1)
    sought_next end e h = record {
      turns = s.turns - 1;
      at = s.at + (end - i);
      reached = reached_next xs i s.turns s.reached inside end e;
      same = next end e ∙ among_cons _ _ _ ∙ rw h;
    }

-- ---- the elements before place i of xs, k of them, have names that differ

pub record NamesPassed (at : ℕ) (xs : List ℕ) (i k : ℕ) (marks : List ℕ) : Type 0 where
  pub turns : ℕ
  pub reached : Reached xs i turns
  pub whole : Filled xs
  pub few : k ≤ i
  pub left : drop k (element_names (length xs) at xs) ≡ element_names turns (at + i) (drop i xs)
  pub met : Met 23 never [] (element_names (length xs) at xs) k marks

module _ (at : ℕ) (xs : List ℕ) where
  pub passed_none : Filled xs → (marks : List ℕ) → length marks ≡ 32 → NamesPassed at xs 0 0 marks
  passed_none f marks h =
      let e : at + 0 ≡ at = omega arith in
      record { turns = length xs; reached = reached_none xs f; whole = f; few = omega arith; left = rw e; met = met_none 23 never [] _ (marks_none marks h) }

  module _ (i k : ℕ) {marks : List ℕ} (l : NamesPassed at xs i k marks) where
    before : texts (take k (element_names (length xs) at xs)) ≡ take k (names_of xs)
    before = texts_take k (element_names (length xs) at xs) ∙ ap (take k) (names_of_lem (length xs) at xs l.whole (omega arith))

    -- a name without a mark is new
    pub passed_unmarked : (t : List ℕ) → marked marks (slot_of t) ≡ false → among (take k (names_of xs)) t ≡ false
    passed_unmarked t h = rw before at (met_unmarked 23 never [] (element_names (length xs) at xs) k l.met t h)

    module _ (inside : i < length xs) where
      name : (end : ℕ) → end ≡ i + element_size (drop i xs)
          → drop k (element_names (length xs) at xs) ≡ name_at (at + i) (drop i xs) ∷ element_names (l.turns - 1) (at + i + (end - i)) (drop end xs)
      name end e = l.left ∙ reached_names xs i l.turns l.reached inside end e (at + i)

      -- the next name is there already
      pub passed_again : among (take k (names_of xs)) (name_text (drop i xs)) ≡ true → distinct 23 never [] (element_names (length xs) at xs) ≡ refused 23 (at + i + 1)
      passed_again h = met_again 23 never [] (element_names (length xs) at xs) k l.met _ _ (name _ refl) (rw before h)

      -- the next name is new
      pub passed_next : (end : ℕ) → end ≡ i + element_size (drop i xs) → among (take k (names_of xs)) (name_text (drop i xs)) ≡ false
          → NamesPassed at xs end (k + 1) (marking marks (slot_of (name_text (drop i xs))))
      passed_next end e h =
          let w = reached_read xs i l.turns l.reached inside in
          let place : at + i + (end - i) ≡ at + end = omega arith in
          record {
            turns = l.turns - 1;
            reached = reached_next xs i l.turns l.reached inside end e;
            whole = l.whole;
            few = omega (arith, l.few, w.0);
            left = drop_next k (element_names (length xs) at xs) (name end e) ∙ rw place;
            met = met_next 23 never [] (element_names (length xs) at xs) k l.met _ _ (name end e) (rw before h) refl;
          }

    -- no element is left
    module _ (end : length xs ≤ i) where
      done : drop k (element_names (length xs) at xs) ≡ []
      done = l.left ∙ reached_end xs i l.turns l.reached (at + i) end

      pub passed_all : distinct 23 never [] (element_names (length xs) at xs) ≡ ok tt
      passed_all = met_all 23 never [] (element_names (length xs) at xs) k l.met done

      pub passed_marks : Marks (names_of xs) marks
      passed_marks = rw (names_of_lem (length xs) at xs l.whole (omega arith)) at (met_marks 23 never [] (element_names (length xs) at xs) k l.met done)

-- ---- marks are made: each of the names has one, or is among those from place i on

pub record Marking (xs : List ℕ) (i : ℕ) (marks : List ℕ) : Type 0 where
  pub turns : ℕ
  pub reached : Reached xs i turns
  pub size : length marks ≡ 32
  pub shows : (t : List ℕ) → among (names_of xs) t ≡ true → (marked marks (slot_of t) || among (texts (element_names turns i (drop i xs))) t) ≡ true

pub marking_none : (xs marks : List ℕ) → Filled xs → length marks ≡ 32 → Marking xs 0 marks
unfolding names_of
marking_none xs marks f h = record { turns = length xs; reached = reached_none xs f; size = h; shows = λ t e. rw e (or-true (marked marks (slot_of t))) }

module _ (xs : List ℕ) (i : ℕ) (marks : List ℕ) (m : Marking xs i marks) where
  module _ (inside : i < length xs) (end : ℕ) (e : end ≡ i + element_size (drop i xs)) where
    abbrev first : List ℕ
    first = name_text (drop i xs)

    abbrev others : List (List ℕ)
    others = texts (element_names (m.turns - 1) end (drop end xs))

    from_first : texts (element_names m.turns i (drop i xs)) ≡ first ∷ others
    from_first =
        let place : i + (end - i) ≡ end = omega arith in
        rw (reached_names xs i m.turns m.reached inside end e i, place) (unfold texts in refl)

    slot : slot_of first / 64 < length marks
    slot = omega (arith, m.size, slot_small first)

    pub marking_next : Marking xs end (marking marks (slot_of (name_text (drop i xs))))
    marking_next = record {
      turns = m.turns - 1;
      reached = reached_next xs i m.turns m.reached inside end e;
      size = marking_size marks _ ∙ m.size;
      shows = λ t h. go t (marked marks (slot_of t)) refl (same_text t first) refl (rw (from_first, among_cons) at (m.shows t h));
    }
      where
        go : (t : List ℕ) (a : Bool) → marked marks (slot_of t) ≡ a → (b : Bool) → same_text t first ≡ b
            → (marked marks (slot_of t) || (same_text t first || among others t)) ≡ true
            → (marked (marking marks (slot_of first)) (slot_of t) || among others t) ≡ true
        go t true p b q h = rw (mark_stays marks (slot_of first) (slot_of t) slot p)
        go t false p true q h = rw (same_text_lem t first q, mark_made marks (slot_of first) slot)
        go t false p false q h =
            let r : among others t ≡ true = rw (p, q) at h in
            rw r (or-true (marked (marking marks (slot_of first)) (slot_of t)))

  pub marking_all : length xs ≤ i → Marks (names_of xs) marks
  marking_all h = record { size = m.size; shows = λ t e. rw (none_left t, or-false) at (m.shows t e) }
    where
      none_left : (t : List ℕ) → among (texts (element_names m.turns i (drop i xs))) t ≡ false
      none_left t = rw (reached_end xs i m.turns m.reached i h) (unfold texts among in refl)

-- ---- no document among the elements before place i: a text with a dot is found if it is found from there on

abbrev pub FlatTo : List ℕ → ℕ → Type 0
FlatTo xs i = (text : List ℕ) → until_dot text < length text → found xs text ≡ found (drop i xs) text

module _ (xs : List ℕ) (i : ℕ) (flat : FlatTo xs i) where
  pub flat_next : Filled (drop i xs) → i < length xs → (get_or xs i 0 ≡ 0x03 → ⊥) → (end : ℕ) → end ≡ i + element_size (drop i xs) → FlatTo xs end
  flat_next f l t end e text h =
      flat text h
      ∙ found_passing text (drop i xs) f (rw length-drop (omega arith)) (λ z. t (sym (rw (drop-cons xs i 0 l)) ∙ z)) h
      ∙ ap (λ (ys : List ℕ). found ys text) (rw (drop-drop, e))

  pub flat_all : length xs ≤ i → Flat xs
  flat_all l text h = flat text h ∙ rw (drop_of_length-le xs l) (found_none text)
