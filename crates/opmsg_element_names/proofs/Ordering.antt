-- Laws of the order of texts.
-- Assumes nothing.
use Prim.Native.Nat.{ℕ, zero, suc, ◌+◌, ◌<◌, ◌≤◌}
use mathlib.Core.Bool.{Bool, true, false}
use mathlib.Core.List.{List, [], ◌∷◌}
use mathlib.Core.Path.{◌≡◌, refl, sym, ◌∙◌}
use native.Mathlib.Omega.{arith}
use native.Mathlib.Numerals.{add-one}
use lib.ListN.{length, get_or, take, drop, get_or-eq_default}
use lib.Seq.{ext_get_or, get_or-take, length-take-le}
use lib.Dec.{ltb, eqb}
use borrow.Author.Tests.{ltb-true, ltb-false, eqb-true, eqb-false}
use borrow.Author.Count.{below_more}
use Rattle.opmsg.specs.Names.{name_text}
use Rattle.wire.specs.Bytes.{until_zero}
use Rattle.wire.proofs.Bytes.{until_stop, until_go, until_zero_lem, until_front, until_le}
use Rattle.opmsg_element_names.specs.Inner.{key, Less, WithoutZero}

-- no text comes before itself
pub less_other : {a b : List ℕ} → Less a b → a ≡ b → ⊥
less_other {a} {b} l e = let z : key a l.place ≡ key b l.place = rw e in omega (arith, l.below)

pub less_trans : {a b c : List ℕ} → Less a b → Less b c → Less a c
less_trans {a} {b} {c} l r = go (ltb l.place r.place) refl
  where
    go : (t : Bool) → ltb l.place r.place ≡ t → Less a c
    go true e =
        let h = ltb-true l.place r.place e in
        record {
          place = l.place;
          same = λ i k. l.same i k ∙ r.same i (omega arith);
          below = omega (arith, l.below, r.same l.place h);
        }
    go false e = equal (eqb l.place r.place) refl
      where
        h : r.place ≤ l.place
        h = ltb-false l.place r.place e

        equal : (t : Bool) → eqb l.place r.place ≡ t → Less a c
        equal true q =
            let p = eqb-true l.place r.place q in
            record {
              place = r.place;
              same = λ i k. l.same i (omega arith) ∙ r.same i k;
              below = let b = rw p at l.below in omega (arith, b, r.below);
            }
        equal false q =
            let n = eqb-false l.place r.place q in
            let w = h in
            record {
              place = r.place;
              same = λ i k. l.same i (omega arith) ∙ r.same i k;
              below = omega (arith, l.same r.place (omega arith), r.below);
            }

-- texts that agree before place i, and what stands there
module _ (a b : List ℕ) (i : ℕ) (agree : (k : ℕ) → k < i → key a k ≡ key b k) where
  pub less_here : key a i < key b i → Less a b
  less_here h = record { place = i; same = agree; below = h }

-- ---- the name that bytes begin with

-- none of the bytes before a zero is one
pub not_zero : (l : List ℕ) (k : ℕ) → k < until_zero l → get_or l k 0 ≡ 0 → ⊥
not_zero [] k h z = let none : until_zero [] ≡ 0 = unfold until_zero in refl in omega (arith, none)
not_zero (x ∷ l) k h z = go (eqb x 0) refl (not_zero l) k h z
  where
    go : (b : Bool) → eqb x 0 ≡ b → ((k : ℕ) → k < until_zero l → get_or l k 0 ≡ 0 → ⊥) → (k : ℕ) → k < until_zero (x ∷ l) → get_or (x ∷ l) k 0 ≡ 0 → ⊥
    go true e ih k h z = omega (arith, until_stop x l e)
    go false e ih zero h z = eqb-false x 0 e z
    go false e ih (suc k) h z = ih k (omega (arith, until_go x l e)) z

-- a byte that is no zero belongs to the name
pub until_more : (l : List ℕ) (i : ℕ) → i ≤ until_zero l → i < length l → (get_or l i 0 ≡ 0 → ⊥) → i + 1 ≤ until_zero l
until_more l i a b z = go (eqb i (until_zero l)) refl
  where
    go : (t : Bool) → eqb i (until_zero l) ≡ t → i + 1 ≤ until_zero l
    go true e =
        let p = eqb-true i (until_zero l) e in
        absurd (z (rw (← p) at (until_zero_lem l (omega arith))))
    go false e = let n = eqb-false i (until_zero l) e in omega arith

-- the name of the bytes l: as long as the search for a zero goes, with these bytes and then a zero
abbrev pub front : List ℕ → List ℕ
front l = take (until_zero l) l

pub front_length : (l : List ℕ) → length (front l) ≡ until_zero l
front_length l = length-take-le (until_zero l) l (until_le l)

pub name_length_lem : (xs : List ℕ) → length (name_text xs) ≡ until_zero (drop 1 xs)
unfolding name_text
name_length_lem xs = front_length (drop 1 xs)

-- and so no zero stands in it
pub name_without_zero : (xs : List ℕ) → WithoutZero (name_text xs)
unfolding name_text
name_without_zero xs = until_front (drop 1 xs) ∙ sym (front_length (drop 1 xs))

pub front_byte : (l : List ℕ) (i : ℕ) → i ≤ until_zero l → key (front l) i ≡ get_or l i 0
front_byte l i h = go (ltb i (until_zero l)) refl
  where
    go : (t : Bool) → ltb i (until_zero l) ≡ t → key (front l) i ≡ get_or l i 0
    go true e = get_or-take (until_zero l) l i 0 (ltb-true i (until_zero l) e)
    go false e =
        let p = ltb-false i (until_zero l) e in
        get_or-eq_default (front l) 0 (omega (arith, front_length l)) ∙ sym (end (ltb i (length l)) refl)
      where
        end : (t : Bool) → ltb i (length l) ≡ t → get_or l i 0 ≡ 0
        end true f =
            let p = ltb-false i (until_zero l) e in
            let q : i ≡ until_zero l = omega arith in
            rw q (until_zero_lem l (omega (arith, ltb-true i (length l) f)))
        end false f = get_or-eq_default l 0 (ltb-false i (length l) f)

-- a text without a zero that agrees with bytes before place i
pub record Agreed (a l : List ℕ) (i : ℕ) : Type 0 where
  pub within : i ≤ length a
  pub inside : i ≤ until_zero l
  pub same : (k : ℕ) → k < i → get_or a k 0 ≡ get_or l k 0

module _ (a l : List ℕ) (without : WithoutZero a) where
  pub agreed_none : Agreed a l 0
  agreed_none = record { within = omega arith; inside = omega arith; same = λ k h. absurd (omega arith) }

  module _ (i : ℕ) (g : Agreed a l i) where
    keys : (k : ℕ) → k < i → key a k ≡ key (front l) k
    keys k h = g.same k h ∙ sym (front_byte l k (omega (arith, g.inside)))

    pub agreed_before : get_or a i 0 < get_or l i 0 → Less a (front l)
    agreed_before h = less_here a (front l) i keys (omega (arith, front_byte l i g.inside))

    pub agreed_after : get_or l i 0 < get_or a i 0 → Less (front l) a
    agreed_after h = less_here (front l) a i (λ k n. sym (keys k n)) (omega (arith, front_byte l i g.inside))

    some : i < length a → get_or a i 0 ≡ 0 → ⊥
    some h = not_zero a i (omega (arith, without))

    -- the bytes end, and the text goes on
    pub agreed_longer : length l ≤ i → i < length a → Less (front l) a
    agreed_longer h n =
        let z = get_or-eq_default l 0 {n = i} h in
        let s = some n in
        agreed_after (omega (arith, z, s))

    pub agreed_more : i < length l → i < length a → get_or a i 0 ≡ get_or l i 0 → Agreed a l (i + 1)
    agreed_more h n e = record {
      within = omega arith;
      inside = until_more l i g.inside h (λ z. some n (e ∙ z));
      same = below_more _ _ g.same e;
    }

  pub agreed_first : (i : ℕ) → i ≤ length a → i ≤ length l → ((k : ℕ) → k < i → get_or a k 0 ≡ get_or l k 0) → Agreed a l i
  agreed_first zero h n s = agreed_none
  agreed_first (suc i) h n s = rw (← add-one i) (agreed_more i (agreed_first i (omega arith) (omega arith) (λ k b. s k (omega arith))) (omega arith) (omega arith) (s i (omega arith)))

  module _ (i : ℕ) (g : Agreed a l i) where
    -- the text ends, and so does the name
    pub agreed_all : length a ≤ i → get_or l i 0 ≡ 0 → a ≡ front l
    agreed_all h z = go (ltb i (until_zero l)) refl
      where
        go : (t : Bool) → ltb i (until_zero l) ≡ t → a ≡ front l
        go true e = absurd (not_zero l i (ltb-true i (until_zero l) e) z)
        go false e =
            let p = ltb-false i (until_zero l) e in
            ext_get_or 0 a (front l) (omega (arith, front_length l, g.within, g.inside)) (λ k n. keys i g k (omega arith))

-- where the text has ended, the byte of the name decides
module _ (a l : List ℕ) (without : WithoutZero a) (i : ℕ) (g : Agreed a l i) (h : length a ≤ i) where
  pub name_goes_on : 0 < get_or l i 0 → Less a (take (until_zero l) l)
  name_goes_on k = let e = get_or-eq_default a 0 {n = i} h in agreed_before a l without i g (omega (arith, e))

  pub name_ends : get_or l i 0 < 1 → a ≡ take (until_zero l) l
  name_ends k = agreed_all a l without i g h (omega arith)

  pub bytes_end : length l ≤ i → a ≡ take (until_zero l) l
  bytes_end k = agreed_all a l without i g h (get_or-eq_default l 0 {n = i} k)

pub ruleset text_ended = (name_goes_on, name_ends)
