-- Laws of where elements start, and what the first name that equals an earlier one says of check 23.
-- Assumes nothing.
use Prim.Native.Nat.{ℕ, zero, suc, ◌+◌, ◌-◌, ◌≤◌, ◌<◌}
use mathlib.Core.Bool.{Bool, true, false, ◌||◌, or-true}
use mathlib.Core.Path.{◌≡◌, refl, sym, ◌∙◌, ap}
use mathlib.Core.List.{List, [], ◌∷◌}
use native.Mathlib.Numerals.{add-one}
use native.Mathlib.Omega.{arith}
use lib.ListN.{length, drop, length-drop, drop_of_length-le}
use lib.Seq.{drop-drop}
use lib.Dec.{ltb, eqb}
use borrow.Author.Tests.{ltb-true, ltb-false, eqb-true, eqb-false}
use Rattle.wire.specs.Outcome.{ok, refused}
use Rattle.wire.proofs.Outcome.{pass, stop}
use Rattle.bson_elements.specs.Element.{element_size}
use Rattle.opmsg.specs.Names.{Name, same_text, among, never, distinct, element_names}
use Rattle.opmsg.specs.Inner.{Filled, none}
use Rattle.opmsg_element_names.specs.Inner.{start_of, name_of, First}
use Rattle.opmsg_element_names.proofs.Texts.{same_self, same_text_lem, among_cons}
use Rattle.opmsg_element_names.proofs.Names.{filled_next, name_at, names_end, names_next, names_turns, names_few}

-- a text is the name of one of the first n elements
pub record Drawn (xs : List ℕ) (n : ℕ) (t : List ℕ) : Type 0 where
  pub index : ℕ
  pub below : index < n
  pub same : name_of xs index ≡ t

pub start_next : (xs : List ℕ) (k : ℕ) → start_of xs (k + 1) ≡ start_of xs k + element_size (drop (start_of xs k) xs)
unfolding start_of
start_next xs k = rw (add-one k)

pub start_mono : (xs : List ℕ) (k q : ℕ) → k ≤ q → start_of xs k ≤ start_of xs q
start_mono xs k zero h = let e : k ≡ 0 = omega arith in rw e (omega arith)
start_mono xs k (suc q) h = go (eqb k (suc q)) refl (start_mono xs k q)
  where
    go : (t : Bool) → eqb k (suc q) ≡ t → (k ≤ q → start_of xs k ≤ start_of xs q) → start_of xs k ≤ start_of xs (suc q)
    go true e ih = rw (eqb-true k (suc q) e) (omega arith)
    go false e ih =
        let d = eqb-false k (suc q) e in
        let l = ih (omega arith) in
        let n : start_of xs (suc q) ≡ start_of xs q + element_size (drop (start_of xs q) xs) = unfold start_of in refl in
        omega (arith, l, n)

-- what starts before an element comes before it
pub start_before : (xs : List ℕ) (k q : ℕ) → start_of xs k < start_of xs q → k < q
start_before xs k q h = go (ltb k q) refl
  where
    go : (t : Bool) → ltb k q ≡ t → k < q
    go true e = ltb-true k q e
    go false e = absurd (omega (arith, start_mono xs q k (ltb-false k q e)))

module _ (xs : List ℕ) (f : Filled xs) where
  pub filled_at : (k : ℕ) → Filled (drop (start_of xs k) xs)
  unfolding start_of
  filled_at zero = f
  filled_at (suc k) = go (ltb (start_of xs k) (length xs)) refl (filled_at k)
    where
      go : (t : Bool) → ltb (start_of xs k) (length xs) ≡ t → Filled (drop (start_of xs k) xs) → Filled (drop (start_of xs (suc k)) xs)
      go true e ih =
          let h = ltb-true (start_of xs k) (length xs) e in
          let p = filled_next ih (rw length-drop (omega arith)) in
          rw drop-drop at p.2
      go false e ih =
          let h = ltb-false (start_of xs k) (length xs) e in
          let z : drop (start_of xs k + element_size (drop (start_of xs k) xs)) xs ≡ [] = drop_of_length-le xs {i = start_of xs k + element_size (drop (start_of xs k) xs)} (omega arith) in
          rw z none

  module _ (k : ℕ) (h : start_of xs k < length xs) where
    pub start_whole : (0 < element_size (drop (start_of xs k) xs)) × (element_size (drop (start_of xs k) xs) ≤ length (drop (start_of xs k) xs))
    start_whole = let p = filled_next (filled_at k) (rw length-drop (omega arith)) in (p.0, p.1)

    pub start_size : (0 < element_size (drop (start_of xs k) xs)) × (start_of xs k + element_size (drop (start_of xs k) xs) ≤ length xs)
    start_size = (start_whole.0, omega (arith, start_whole.1, length-drop (start_of xs k) xs))

    pub start_later : (q : ℕ) → k < q → start_of xs k < start_of xs q
    start_later q l = omega (arith, start_mono xs (k + 1) q (omega arith), start_next xs k, start_whole.0)

  -- the names from element k on: none, or its name and those behind it
  module _ (at : ℕ) where
    abbrev from : ℕ → List Name
    from k = element_names (length xs) (at + start_of xs k) (drop (start_of xs k) xs)

    from_end : (k : ℕ) → length xs ≤ start_of xs k → from k ≡ []
    from_end k h = rw (drop_of_length-le xs h) (names_end (length xs) (at + start_of xs k))

    from_next : (k : ℕ) → start_of xs k < length xs → from k ≡ name_at (at + start_of xs k) (drop (start_of xs k) xs) ∷ from (k + 1)
    from_next k h =
        let s = start_size k h in
        let place : at + start_of xs k + element_size (drop (start_of xs k) xs) ≡ at + start_of xs (k + 1) = omega (arith, start_next xs k) in
        let rest : drop (element_size (drop (start_of xs k) xs)) (drop (start_of xs k) xs) ≡ drop (start_of xs (k + 1)) xs = rw (drop-drop, start_next xs k) in
        let few : length (drop (start_of xs (k + 1)) xs) ≤ length xs - 1 = omega (arith, length-drop (start_of xs (k + 1)) xs, start_next xs k, s.0) in
        names_next (length xs) (at + start_of xs k) (drop (start_of xs k) xs) (omega arith) (rw length-drop (omega arith))
        ∙ rw (place, rest) (ap (λ (ns : List Name). name_at (at + start_of xs k) (drop (start_of xs k) xs) ∷ ns) (names_turns (length xs - 1) (length xs) _ _ (filled_at (k + 1)) few (omega arith)))

    abbrev all : List Name
    all = element_names (length xs) at xs

    left : (k : ℕ) → drop k all ≡ from k
    unfolding start_of
    left zero = let e : at + 0 ≡ at = omega arith in rw e
    left (suc k) = go (ltb (start_of xs k) (length xs)) refl (left k)
      where
        one : drop (suc k) all ≡ drop 1 (drop k all)
        one = rw (drop-drop, add-one)

        go : (t : Bool) → ltb (start_of xs k) (length xs) ≡ t → drop k all ≡ from k → drop (suc k) all ≡ from (suc k)
        go true e ih = one ∙ rw (ih, from_next k (ltb-true (start_of xs k) (length xs) e), add-one k)
        go false e ih =
            let h = ltb-false (start_of xs k) (length xs) e in
            one ∙ rw (ih, from_end k h, from_end (suc k) (omega (arith, start_mono xs k (suc k) (omega arith))))

    head : (k : ℕ) → start_of xs k < length xs → drop k all ≡ name_at (at + start_of xs k) (drop (start_of xs k) xs) ∷ drop (k + 1) all
    head k h = left k ∙ from_next k h ∙ rw (left (k + 1))

    end : (k : ℕ) → length xs ≤ start_of xs k → drop k all ≡ []
    end k h = left k ∙ from_end k h

-- ---- the names of the first k elements

earlier : List ℕ → ℕ → List (List ℕ)
earlier xs zero = []
earlier xs (suc k) = name_of xs k ∷ earlier xs k

new : (xs t : List ℕ) (k : ℕ) → ((j : ℕ) → j < k → name_of xs j ≡ t → ⊥) → among (earlier xs k) t ≡ false
unfolding among earlier
new xs t zero h = refl
new xs t (suc k) h = among_cons (name_of xs k) (earlier xs k) t ∙ rw (new xs t k (λ j l. h j (omega arith))) (go (same_text t (name_of xs k)) refl)
  where
    go : (b : Bool) → same_text t (name_of xs k) ≡ b → (same_text t (name_of xs k) || false) ≡ false
    go true e = absurd (h k (omega arith) (sym (same_text_lem _ _ e)))
    go false e = rw e

old : (xs t : List ℕ) (k j : ℕ) → j < k → name_of xs j ≡ t → among (earlier xs k) t ≡ true
unfolding earlier
old xs t zero j l e = absurd (omega arith)
old xs t (suc k) j l e = among_cons (name_of xs k) (earlier xs k) t ∙ go (eqb j k) refl (λ n. old xs t k j n e)
  where
    go : (b : Bool) → eqb j k ≡ b → (j < k → among (earlier xs k) t ≡ true) → (same_text t (name_of xs k) || among (earlier xs k) t) ≡ true
    go true d ih = let p : name_of xs k ≡ t = rw (eqb-true j k d) at e in rw (p, same_self t)
    go false d ih = let p = eqb-false j k d in rw (ih (omega arith)) (or-true (same_text t (name_of xs k)))

module _ (xs : List ℕ) (f : Filled xs) (at : ℕ) where
  -- where the first k names differ, check 23 goes on behind them
  goes_on : (k : ℕ) → ((j q : ℕ) → j < q → q < k → start_of xs q < length xs → name_of xs j ≡ name_of xs q → ⊥)
      → distinct 23 never [] (element_names (length xs) at xs) ≡ distinct 23 never (earlier xs k) (drop k (element_names (length xs) at xs))
  unfolding distinct earlier
  goes_on zero h = refl
  goes_on (suc k) h = goes_on k (λ j q a b. h j q a (omega arith)) ∙ go (ltb (start_of xs k) (length xs)) refl
    where
      go : (t : Bool) → ltb (start_of xs k) (length xs) ≡ t
          → distinct 23 never (earlier xs k) (drop k (element_names (length xs) at xs)) ≡ distinct 23 never (earlier xs (suc k)) (drop (suc k) (element_names (length xs) at xs))
      go true e =
          let l = ltb-true (start_of xs k) (length xs) e in
          rw (head xs f at k l, add-one k) (pass 23 (at + start_of xs k + 1) _ (new xs (name_of xs k) k (λ j a. h j k a (omega arith) l)) ∙ pass 23 (at + start_of xs k + 1) _ refl)
      go false e =
          let l = ltb-false (start_of xs k) (length xs) e in
          rw (end xs f at k l, end xs f at (suc k) (omega (arith, start_mono xs k (suc k) (omega arith))))

  pub first_none : (bound : ℕ) → First xs bound → length xs ≤ bound → distinct 23 never [] (element_names (length xs) at xs) ≡ ok tt
  unfolding distinct
  first_none bound s h =
      goes_on (length xs) (λ j q a b c. s.clear j q a (omega arith))
      ∙ rw (drop_of_length-le (element_names (length xs) at xs) (names_few (length xs) at xs f))

  pub first_again : (bound : ℕ) → First xs bound → bound < length xs → distinct 23 never [] (element_names (length xs) at xs) ≡ refused 23 (at + bound + 1)
  unfolding distinct
  first_again bound s h =
      let a = s.again h in
      let l : start_of xs a.later < length xs = rw a.is at h in
      goes_on a.later (λ j q b c d. s.clear j q b (omega (arith, a.is, start_later xs f q d a.later c)))
      ∙ rw (head xs f at a.later l, a.is) (stop 23 (at + start_of xs a.later + 1) _ (old xs (name_of xs a.later) a.later a.earlier a.order a.same))
