-- Laws of a block: its names are entered into a table one after the other, and later ones are looked up.
-- Assumes nothing.
use Prim.Native.Nat.{ℕ, ◌+◌, ◌-◌, ◌<◌, ◌≤◌}
use mathlib.Core.Bool.{Bool, true, false}
use mathlib.Core.List.{List}
use mathlib.Core.Path.{◌≡◌, refl, sym, ◌∙◌, ap}
use native.Mathlib.Omega.{arith}
use lib.ListN.{length, get_or, drop}
use lib.Dec.{ltb, eqb}
use borrow.Author.Tests.{ltb-true, ltb-false, eqb-true, eqb-false}
use Rattle.bson_elements.specs.Element.{element_size}
use Rattle.opmsg.specs.Inner.{Filled}
use Rattle.opmsg_element_names.specs.Inner.{Less, Read, text_at, start_of, name_of, First}
use Rattle.opmsg_name_blocks.specs.Inner.{entry, Sorted, Between, Entered, Inserted, Cleared}
use Rattle.opmsg_element_names.proofs.Ordering.{less_other}
use Rattle.opmsg_element_names.proofs.Starts.{Drawn, start_next, start_mono, start_before, start_whole, start_later}

-- a text with a place between the entries is none of them
between_new : {xs table : List ℕ} {m : ℕ} {text : List ℕ} {i : ℕ} → Between xs table m text i → Entered xs table m text → ⊥
between_new {i = i} b e = go (ltb e.at i) refl
  where
    go : (t : Bool) → ltb e.at i ≡ t → ⊥
    go true l = less_other (b.under e.at (ltb-true e.at i l)) (sym e.same)
    go false l = less_other (b.over e.at (ltb-false e.at i l) e.within) e.same

-- ---- an entry is put in at place i: each entry of the new table is the new one, or was there

data Spot (m i j : ℕ) : Type 0 where
  under : j < i → Spot m i j
  there : j ≡ i → Spot m i j
  over : (p : ℕ) → j ≡ p + 1 → i ≤ p → p < m → Spot m i j

spot : (m i j : ℕ) → j < m + 1 → Spot m i j
spot m i j h = go (ltb j i) refl (eqb j i) refl
  where
    go : (s : Bool) → ltb j i ≡ s → (t : Bool) → eqb j i ≡ t → Spot m i j
    go true l t e = under (ltb-true j i l)
    go false l true e = there (eqb-true j i e)
    go false l false e =
        let a = ltb-false j i l in
        let d = eqb-false j i e in
        over (j - 1) (omega arith) (omega arith) (omega arith)

module _ (xs old new : List ℕ) (m i p : ℕ) (ins : Inserted old m i p new) where
  entry_under : (k : ℕ) → k < i → entry xs new k ≡ entry xs old k
  entry_under k h = ap (text_at xs) (ins.under k h)

  entry_there : entry xs new i ≡ text_at xs p
  entry_there = ap (text_at xs) ins.there

  entry_over : (k : ℕ) → i ≤ k → k < m → entry xs new (k + 1) ≡ entry xs old k
  entry_over k h l = ap (text_at xs) (ins.over k h l)

  module _ (s : Sorted xs old m) (room : m < length new) (inside : p < length xs) (b : Between xs old m (text_at xs p) i) where
    inside_new : (j : ℕ) → Spot m i j → get_or new j 0 < length xs
    inside_new j (under h) = rw (ins.under j h) (s.inside j (omega (arith, b.within)))
    inside_new j (there e) = rw (e, ins.there) inside
    inside_new j (over k e h l) = rw (e, ins.over k h l) (s.inside k l)

    ascending_new : (j k : ℕ) → j < k → Spot m i j → Spot m i k → Less (entry xs new j) (entry xs new k)
    ascending_new j k l (under g) (under h) = rw (entry_under j g, entry_under k h) (s.ascending j k l (omega (arith, b.within)))
    ascending_new j k l (under g) (there e) = rw (e, entry_under j g, entry_there) (b.under j g)
    ascending_new j k l (under g) (over q e h n) = rw (e, entry_under j g, entry_over q h n) (s.ascending j q (omega arith) n)
    ascending_new j k l (there d) (under h) = absurd (omega arith)
    ascending_new j k l (there d) (there e) = absurd (omega arith)
    ascending_new j k l (there d) (over q e h n) = rw (d, e, entry_there, entry_over q h n) (b.over q h n)
    ascending_new j k l (over r d g o) (under h) = absurd (omega arith)
    ascending_new j k l (over r d g o) (there e) = absurd (omega arith)
    ascending_new j k l (over r d g o) (over q e h n) = rw (d, e, entry_over r g o, entry_over q h n) (s.ascending r q (omega arith) n)

    sorted_new : Sorted xs new (m + 1)
    sorted_new = record {
      few = omega arith;
      inside = λ j h. inside_new j (spot m i j h);
      ascending = λ j k l h. ascending_new j k l (spot m i j (omega arith)) (spot m i k h);
    }

    -- what was entered still is, and so is the new one
    entered_still : (t : List ℕ) → Entered xs old m t → Entered xs new (m + 1) t
    entered_still t e = go (ltb e.at i) refl
      where
        go : (c : Bool) → ltb e.at i ≡ c → Entered xs new (m + 1) t
        go true l = record { at = e.at; within = omega (arith, e.within); same = e.same ∙ sym (entry_under e.at (ltb-true e.at i l)) }
        go false l = record { at = e.at + 1; within = omega (arith, e.within); same = e.same ∙ sym (entry_over e.at (ltb-false e.at i l) e.within) }

    entered_new : Entered xs new (m + 1) (text_at xs p)
    entered_new = record { at = i; within = omega (arith, b.within); same = sym entry_there }

-- ---- a block is filled: its first m names are in the table, and no name before `here` equals one of those or one of an earlier block

pub record Filling (size : ℕ) (xs : List ℕ) (s bound : ℕ) (table : List ℕ) (m i next : ℕ) : Type 0 where
  pub opened : Cleared xs s bound
  pub here : ℕ
  pub place : i ≡ start_of xs here
  pub after : next ≡ start_of xs (opened.passed + m)
  pub behind : opened.passed + m ≤ here
  pub phase : m < size → here ≡ opened.passed + m
  pub some : 0 < size
  pub size_is : length table ≡ size
  pub sorted : Sorted xs table m
  pub drawn : (j : ℕ) → j < m → Drawn xs (opened.passed + m) (entry xs table j)
  pub entered : (k : ℕ) → opened.passed ≤ k → k < opened.passed + m → Entered xs table m (name_of xs k)
  pub clear : (k q : ℕ) → k < opened.passed + m → k < q → q < here → name_of xs k ≡ name_of xs q → ⊥

pub filling_none : (xs : List ℕ) (s bound : ℕ) (table : List ℕ) → Cleared xs s bound → s < bound → 0 < length table → Filling (length table) xs s bound table 0 s s
filling_none xs s bound table c h l =
    let z : c.passed + 0 ≡ c.passed = omega arith in
    record {
      opened = c;
      here = c.passed;
      place = c.start;
      after = rw z c.start;
      behind = omega arith;
      phase = λ r. omega arith;
      some = l;
      size_is = refl;
      sorted = record { few = omega arith; inside = λ j k. absurd (omega arith); ascending = λ j k a b. absurd (omega arith) };
      drawn = λ j k. absurd (omega arith);
      entered = λ k a b. absurd (omega arith);
      clear = λ k q a b d. c.clear k q (omega arith) b (omega (arith, c.start, start_mono xs q c.passed (omega arith)));
    }

module _ (size : ℕ) (xs : List ℕ) (s bound : ℕ) (table : List ℕ) (m i next : ℕ) (f : Filled xs) (g : Filling size xs s bound table m i next) where
  abbrev a : ℕ
  a = g.opened.passed

  behind_start : s ≤ next
  behind_start = omega (arith, g.opened.start, g.after, start_mono xs a (a + m) (omega arith))

  -- all names before the bound were looked up
  pub filling_all : s < bound → bound ≤ i → Cleared xs next bound × (bound - next < bound - s)
  filling_all h e = (
    record {
      passed = a + m;
      start = g.after;
      within = g.opened.within;
      clear = λ k q b c d. g.clear k q b c (start_before xs q g.here (omega (arith, g.place)));
      again = g.opened.again;
    },
    go (eqb m 0) refl,
  )
    where
      go : (t : Bool) → eqb m 0 ≡ t → bound - next < bound - s
      go true d =
          let z = eqb-true m 0 d in
          let p : g.here ≡ a = omega (arith, g.phase (omega (arith, g.some))) in
          let w : start_of xs g.here ≡ start_of xs a = ap (start_of xs) p in
          absurd (omega (arith, w, g.place, g.opened.start))
      go false d =
          let z = eqb-false m 0 d in
          let l : start_of xs a < length xs = omega (arith, g.opened.start, g.opened.within) in
          omega (arith, start_later xs f a l (a + m) (omega arith), g.after, g.opened.start)

  module _ (inside : i < bound) where
    within : start_of xs g.here < length xs
    within = omega (arith, g.place, g.opened.within)

    pub filling_read : Read xs i
    filling_read = rw g.place (start_whole xs f g.here within)

    -- the next name is one of the table's
    pub filling_seen : Entered xs table m (text_at xs i) → Cleared xs next i × (i - next < bound - s)
    filling_seen e =
        let d = g.drawn e.at e.within in (
          record {
            passed = a + m;
            start = g.after;
            within = omega (arith, g.opened.within);
            clear = λ k q b c l. g.clear k q b c (start_before xs q g.here (omega (arith, g.place)));
            again = λ l. record {
              later = g.here;
              earlier = d.index;
              is = g.place;
              order = omega (arith, d.below, g.behind);
              same = d.same ∙ sym e.same ∙ ap (text_at xs) g.place;
            };
          },
          omega (arith, behind_start, g.place, g.opened.start, start_mono xs a g.here (omega (arith, g.behind))),
        )

    module _ (k : ℕ) (b : Between xs table m (text_at xs i) k) where
      -- the next name is new
      fresh : (j : ℕ) → j < a + m → name_of xs j ≡ name_of xs g.here → ⊥
      fresh j h e = go (ltb j a) refl
        where
          go : (t : Bool) → ltb j a ≡ t → ⊥
          go true l = g.opened.clear j g.here (ltb-true j a l) (omega (arith, g.behind)) (omega (arith, g.place)) e
          go false l =
              let n = g.entered j (ltb-false j a l) h in
              between_new b (record { at = n.at; within = n.within; same = ap (text_at xs) g.place ∙ sym e ∙ n.same })

      clear_next : (j q : ℕ) → j < a + m → j < q → q < g.here + 1 → name_of xs j ≡ name_of xs q → ⊥
      clear_next j q h l n e = go (eqb q g.here) refl
        where
          go : (t : Bool) → eqb q g.here ≡ t → ⊥
          go true d = fresh j h (rw (eqb-true q g.here d) at e)
          go false d = let p = eqb-false q g.here d in g.clear j q h l (omega arith) e

      module _ (end : ℕ) (is : end ≡ i + element_size (drop i xs)) where
        next_place : end ≡ start_of xs (g.here + 1)
        next_place = is ∙ rw (start_next, ← g.place)

        -- the table is full
        pub filling_full : size ≤ m → Filling size xs s bound table m end next
        filling_full h = record {
          opened = g.opened;
          here = g.here + 1;
          place = next_place;
          after = g.after;
          behind = omega (arith, g.behind);
          phase = λ r. absurd (omega arith);
          some = g.some;
          size_is = g.size_is;
          sorted = g.sorted;
          drawn = g.drawn;
          entered = g.entered;
          clear = clear_next;
        }

        -- the name is entered
        pub filling_more : m < size → (new : List ℕ) → length new ≡ length table → Inserted table m k i new → Filling size xs s bound new (m + 1) end end
        filling_more h new l ins = record {
          opened = g.opened;
          here = g.here + 1;
          place = next_place;
          after = next_place ∙ ap (start_of xs) (omega (arith, phase));
          behind = omega (arith, phase);
          phase = λ r. omega (arith, phase);
          some = g.some;
          size_is = l ∙ g.size_is;
          sorted = sorted_new xs table new m k i ins g.sorted room low b;
          drawn = λ j n. draw j (spot m k j n);
          entered = λ j n o. enter j n o;
          clear = λ j q n o p. clear_next j q (omega (arith, phase)) o p;
        }
          where
            phase : g.here ≡ a + m
            phase = g.phase h

            room : m < length new
            room = omega (arith, l, g.size_is)

            low : i < length xs
            low = omega (arith, g.opened.within)

            was : (j : ℕ) (p : ℕ) → p < m → entry xs new j ≡ entry xs table p → Drawn xs (a + (m + 1)) (entry xs new j)
            was j p n e = let d = g.drawn p n in record { index = d.index; below = omega (arith, d.below); same = d.same ∙ sym e }

            draw : (j : ℕ) → Spot m k j → Drawn xs (a + (m + 1)) (entry xs new j)
            draw j (under n) = was j j (omega (arith, b.within)) (entry_under xs table new m k i ins j n)
            draw j (there e) = record { index = g.here; below = omega (arith, phase); same = sym (rw e (entry_there xs table new m k i ins) ∙ ap (text_at xs) g.place) }
            draw j (over p e n o) = was j p o (rw e (entry_over xs table new m k i ins p n o))

            enter : (j : ℕ) → a ≤ j → j < a + (m + 1) → Entered xs new (m + 1) (name_of xs j)
            enter j n o = go (eqb j g.here) refl
              where
                go : (t : Bool) → eqb j g.here ≡ t → Entered xs new (m + 1) (name_of xs j)
                go true d =
                    let e : text_at xs i ≡ name_of xs j = ap (text_at xs) g.place ∙ rw (eqb-true j g.here d) in
                    rw e at (entered_new xs table new m k i ins g.sorted room low b)
                go false d =
                    let e = eqb-false j g.here d in
                    entered_still xs table new m k i ins g.sorted room low b (name_of xs j) (g.entered j n (omega (arith, phase)))

-- ---- the blocks: none yet, and no more

pub cleared_none : (xs : List ℕ) → Cleared xs 0 (length xs)
cleared_none xs = record {
  passed = 0;
  start = unfold start_of in refl;
  within = omega arith;
  clear = λ k q a. absurd (omega arith);
  again = λ h. absurd (omega arith);
}

pub cleared_all : (xs : List ℕ) (s bound : ℕ) → Cleared xs s bound → bound ≤ s → First xs bound
cleared_all xs s bound c h = record {
  within = c.within;
  clear = λ k q l n. c.clear k q (start_before xs k c.passed (omega (arith, c.start, start_mono xs k q (omega arith)))) l n;
  again = c.again;
}
