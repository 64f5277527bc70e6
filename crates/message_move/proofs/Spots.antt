-- Sequences that go to their entries one by one, and the body to the one that they leave.
-- Assumes nothing.
use Prim.Native.Nat.{ℕ, zero, suc, ◌+◌, ◌-◌, ◌≤◌, ◌<◌}
use mathlib.Core.Bool.{Bool, true, false}
use mathlib.Core.Path.{◌≡◌, refl, sym, ap, ◌∙◌}
use mathlib.Core.List.{List, [], ◌∷◌, ◌++◌, map, map-append, append_assoc, append-nil}
use native.Mathlib.Omega.{arith}
use lib.ListN.{length, take, drop, set, replicate, length-append, length-drop, length-map, drop_of_length-le}
use lib.Seq.{take_all, take-append-le, drop-append-le, length-take-le, set-append_seam}
use lib.Dec.{ltb}
use borrow.Author.Tests.{ltb-true, ltb-false}
use Rattle.opmsg.specs.Sections.{max_sequences, max_sections, body_of, sequences_of}
use Rattle.opmsg.specs.View.{padded, sections_of, sequence_count}
use Rattle.opmsg.specs.declared.Range.{Range}
use Rattle.opmsg.specs.declared.Section.{Section}
use Rattle.opmsg.specs.declared.Section.TheVariants.{None, Body, Sequence}
use Rattle.opmsg.specs.declared.Entry.{Entry}
use Rattle.opmsg.specs.declared.View.{View}
use Rattle.opmsg.proofs.Shown.{padded_set}
use Rattle.opmsg.proofs.Entries.{said_at, said_from, said_next, said_end, NoSequence, no_sequence}
use Rattle.message.specs.Move.{reordered}
use Rattle.message_move.specs.Inner.{spot}

-- sequences with an entry left for the body behind a number of them
abbrev holed : ℕ → List Section → List Section
holed behind qs = take behind qs ++ (None ∷ drop behind qs)

abbrev says : Section → Entry
says q = record { section = q }

-- an entry that says none at the end is there anyway
padded_none : (qs : List Section) → length qs < max_sections → padded (qs ++ (None ∷ [])) ≡ padded qs
unfolding padded
padded_none qs l =
    let rest = replicate (max_sections - length (qs ++ (None ∷ []))) None in
    let e : max_sections - length qs ≡ suc (max_sections - length (qs ++ (None ∷ []))) = omega (arith, length-append qs (None ∷ [])) in
    rw e (ap (map says) (append_assoc qs (None ∷ []) rest))

-- one entry changes
padded_middle : (ps rs : List Section) (q r : Section) → set (padded (ps ++ (q ∷ rs))) (length ps) (says r) ≡ padded (ps ++ (r ∷ rs))
unfolding padded
padded_middle ps rs q r =
    let same : length (ps ++ (q ∷ rs)) ≡ length (ps ++ (r ∷ rs)) = omega (arith, length-append ps (q ∷ rs), length-append ps (r ∷ rs)) in
    let rest = replicate (max_sections - length (ps ++ (r ∷ rs))) None in
    rw (same, append_assoc ps (q ∷ rs) rest, append_assoc ps (r ∷ rs) rest, map-append says ps (q ∷ (rs ++ rest)), map-append says ps (r ∷ (rs ++ rest)), ← length-map ps says)
    (set-append_seam (map says ps) (says q) (map says (rs ++ rest)) (says r))

-- its entry is not far
pub spot_near : (count behind : ℕ) → spot count behind ≤ count + 1
unfolding spot
spot_near count behind = elim (ltb count behind) as (λ b. elim b [ true ↦ count | false ↦ count + 1 ] ≤ count + 1) [ true ↦ omega arith | false ↦ omega arith ]

module _ (behind : ℕ) (qs : List Section) where
  -- the next sequence goes to its entry
  spotted : (q : Section) → length qs < max_sequences → set (padded (holed behind qs)) (spot (length qs) behind) (says q) ≡ padded (holed behind (qs ++ (q ∷ [])))
  unfolding spot max_sequences max_sections
  spotted q few = go (ltb (length qs) behind) refl
    where
      more : length (qs ++ (q ∷ [])) ≡ length qs + 1
      more = length-append qs (q ∷ [])

      front : length qs < behind → set (padded (holed behind qs)) (length qs) (says q) ≡ padded (holed behind (qs ++ (q ∷ [])))
      front l =
          let next = qs ++ (q ∷ []) in
          rw (take_all behind qs (omega arith), drop_of_length-le qs {i = behind} (omega arith), take_all behind next (omega (arith, more)), drop_of_length-le next {i = behind} (omega (arith, more)))
          (padded_middle qs [] None q ∙ sym (padded_none next (omega (arith, more))))

      back : behind ≤ length qs → set (padded (holed behind qs)) (length qs + 1) (says q) ≡ padded (holed behind (qs ++ (q ∷ [])))
      back l =
          let long : length (holed behind qs) ≡ length qs + 1 = length-append (take behind qs) (None ∷ drop behind qs) ∙ rw (length-take-le behind qs l, length-drop behind qs) (omega arith) in
          rw (take-append-le behind qs (q ∷ []) l, drop-append-le behind qs (q ∷ []) l, ← long)
          (padded_set (holed behind qs) q (omega (arith, long)) ∙ ap padded (append_assoc (take behind qs) (None ∷ drop behind qs) (q ∷ [])))

      go : (b : Bool) → ltb (length qs) behind ≡ b → set (padded (holed behind qs)) (spot (length qs) behind) (says q) ≡ padded (holed behind (qs ++ (q ∷ [])))
      go true t = rw (spot, t) (front (ltb-true (length qs) behind t))
      go false t = rw (spot, t) (back (ltb-false (length qs) behind t))

  -- the body goes to the entry that is left
  bodied : (r : Section) → behind ≤ length qs → set (padded (holed behind qs)) behind (says r) ≡ padded (take behind qs ++ (r ∷ drop behind qs))
  bodied r l = rw (length-take-le behind qs l) at (padded_middle (take behind qs) (drop behind qs) None r)

-- ---- in code: i entries of a view are passed, and so many sequences among them

pub record Ordering (v : View) (behind i count : ℕ) (list : List Entry) : Type 0 where
  pub passed : List Section
  pub together : passed ++ sequences_of (said_from v.entries i) ≡ sequences_of (sections_of v)
  pub count_is : length passed ≡ count
  pub list_is : list ≡ padded (holed behind passed)

module _ (v : View) (behind : ℕ) where
  pub orders_none : Ordering v behind 0 0 (padded [])
  unfolding sections_of padded max_sections
  orders_none = record { passed = []; together = refl; count_is = refl; list_is = go behind }
    where
      go : (behind : ℕ) → padded [] ≡ padded (holed behind [])
      go zero = refl
      go (suc behind) = refl

  module _ (i count : ℕ) (list : List Entry) (o : Ordering v behind i count list) (few : sequence_count v ≤ max_sequences) (more : i < length v.entries) where
    next : said_from v.entries i ≡ said_at v.entries i ∷ said_from v.entries (i + 1)
    next = said_next v.entries i more

    module _ {a b : Range} {n : ℕ} (e : said_at v.entries i ≡ Sequence a b n) where
      joined : (o.passed ++ (Sequence a b n ∷ [])) ++ sequences_of (said_from v.entries (i + 1)) ≡ sequences_of (sections_of v)
      unfolding sequences_of
      joined = append_assoc o.passed (Sequence a b n ∷ []) (sequences_of (said_from v.entries (i + 1))) ∙ rw (next, e) at o.together

      pub orders_room : count < max_sequences
      unfolding sequence_count
      orders_room =
          omega (arith, few, o.count_is, ap length joined, length-append (o.passed ++ (Sequence a b n ∷ [])) (sequences_of (said_from v.entries (i + 1))), length-append o.passed (Sequence a b n ∷ []))

      pub orders_sequence : Ordering v behind (i + 1) (count + 1) (set list (spot count behind) (says (said_at v.entries i)))
      orders_sequence = record {
        passed = o.passed ++ (Sequence a b n ∷ []);
        together = joined;
        count_is = length-append o.passed (Sequence a b n ∷ []) ∙ ap (λ (m : ℕ). m + 1) o.count_is;
        list_is = rw (o.list_is, e, ← o.count_is) (spotted behind o.passed (Sequence a b n) (rw o.count_is orders_room));
      }

    pub orders_other : NoSequence (said_at v.entries i) → Ordering v behind (i + 1) count list
    orders_other h = record {
      passed = o.passed;
      together = ap (λ (qs : List Section). o.passed ++ qs) (sym (ap sequences_of next ∙ no_sequence (said_at v.entries i) (said_from v.entries (i + 1)) h)) ∙ o.together;
      count_is = o.count_is;
      list_is = o.list_is;
    }

  pub orders_all : (i count : ℕ) (list : List Entry) → Ordering v behind i count list → length v.entries ≤ i → behind ≤ sequence_count v
      → set list behind (says (Body (body_of (sections_of v)))) ≡ padded (reordered behind (sections_of v))
  unfolding reordered sequence_count sequences_of
  orders_all i count list o l few =
      let all : o.passed ≡ sequences_of (sections_of v) = sym (append-nil o.passed) ∙ rw (said_end v.entries i l) at o.together in
      rw (o.list_is, all) (bodied behind (sequences_of (sections_of v)) (Body (body_of (sections_of v))) few)
