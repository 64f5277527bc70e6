-- Laws of slots that hold places by the names there.
-- Assumes nothing.
use Prim.Native.Nat.{ℕ, zero, suc, ◌+◌, ◌-◌, ◌<◌, ◌≤◌}
use mathlib.Core.Bool.{Bool, true, false}
use mathlib.Core.List.{List}
use mathlib.Core.Path.{◌≡◌, refl, sym, ◌∙◌, ap}
use native.Mathlib.Omega.{arith}
use lib.ListN.{length, get_or, drop, set, replicate, length-set}
use lib.Seq.{get_or-set_same, get_or-set_other}
use lib.Bits.{and_le_r}
use lib.Dec.{ltb, eqb}
use borrow.Author.Tests.{ltb-true, ltb-false, eqb-true, eqb-false}
use Rattle.bson_elements.specs.Element.{element_size}
use Rattle.opmsg.specs.Inner.{Filled}
use Rattle.opmsg_element_names.specs.Inner.{Read, text_at, start_of, name_of, First}
use Rattle.opmsg_name_slots.specs.Inner.{reach, hash_of, home_of, held, Blank, Free, SlotHolds}
use Rattle.opmsg_element_names.proofs.Starts.{Drawn, start_next, start_before, start_whole}

pub all_zero : (n j : ℕ) → ◌≡◌ {A = ℕ} (get_or (replicate n 0) j 0) 0
all_zero zero j = refl
all_zero (suc n) zero = refl
all_zero (suc n) (suc j) = all_zero n j

-- behind where a text belongs there are slots enough
pub home_small : (slots : ℕ) (t : List ℕ) → reach < slots → home_of slots t + reach ≤ slots
unfolding home_of
home_small slots t h = omega (arith, and_le_r (hash_of t) (slots - reach - 1))

-- ---- slots are passed, from where a text belongs

pub record Passed (xs slots text : List ℕ) (start j : ℕ) : Type 0 where
  pub from : start ≤ j
  pub to : j ≤ start + reach
  pub full : (l : ℕ) → start ≤ l → l < j → 0 < get_or slots l 0
  pub other : (l : ℕ) → start ≤ l → l < j → text ≡ held xs slots l → ⊥

module _ (xs slots text : List ℕ) (start : ℕ) where
  pub passed_none : Passed xs slots text start start
  passed_none = record { from = omega arith; to = omega arith; full = λ l a b. absurd (omega arith); other = λ l a b. absurd (omega arith) }

  module _ (j : ℕ) (p : Passed xs slots text start j) where
    pub passed_free : j < length slots → get_or slots j 0 ≡ 0 → Free xs slots text start j
    passed_free h e = record { from = p.from; below = h; free = e; full = p.full; other = p.other }

    pub passed_more : j < start + reach → 0 < get_or slots j 0 → (text ≡ held xs slots j → ⊥) → Passed xs slots text start (j + 1)
    passed_more h f o = record { from = omega (arith, p.from); to = omega arith; full = λ l a b. full l a b (eqb l j) refl; other = λ l a b. other l a b (eqb l j) refl }
      where
        full : (l : ℕ) → start ≤ l → l < j + 1 → (t : Bool) → eqb l j ≡ t → 0 < get_or slots l 0
        full l a b true e = rw (eqb-true l j e) f
        full l a b false e = let d = eqb-false l j e in p.full l a (omega arith)

        other : (l : ℕ) → start ≤ l → l < j + 1 → (t : Bool) → eqb l j ≡ t → text ≡ held xs slots l → ⊥
        other l a b true e = rw (eqb-true l j e) o
        other l a b false e = let d = eqb-false l j e in p.other l a (omega arith)

-- ---- the names before place i differ, and each is held

pub record Kept (size : ℕ) (xs slots t : List ℕ) : Type 0 where
  pub at : ℕ
  pub from : home_of size t ≤ at
  pub some : 0 < get_or slots at 0
  pub same : t ≡ held xs slots at
  pub full : (l : ℕ) → home_of size t ≤ l → l < at → 0 < get_or slots l 0

pub record Slotted (size : ℕ) (xs slots : List ℕ) (i : ℕ) : Type 0 where
  pub here : ℕ
  pub place : i ≡ start_of xs here
  pub size_is : length slots ≡ size
  pub inside : (j : ℕ) → get_or slots j 0 ≤ length xs
  pub drawn : (j : ℕ) → 0 < get_or slots j 0 → Drawn xs here (held xs slots j)
  pub kept : (k : ℕ) → k < here → Kept size xs slots (name_of xs k)
  pub clear : (k q : ℕ) → k < q → q < here → name_of xs k ≡ name_of xs q → ⊥

pub slotted_none : (xs slots : List ℕ) → Blank slots → Slotted (length slots) xs slots 0
slotted_none xs slots b = record {
  here = 0;
  place = unfold start_of in refl;
  size_is = refl;
  inside = λ j. omega (arith, b j);
  drawn = λ j h. absurd (omega (arith, b j));
  kept = λ k h. absurd (omega arith);
  clear = λ k q a h. absurd (omega arith);
}

module _ (size : ℕ) (xs slots : List ℕ) (i : ℕ) (f : Filled xs) (g : Slotted size xs slots i) where
  pub slotted_all : length xs ≤ i → First xs (length xs)
  slotted_all h = record {
    within = omega arith;
    clear = λ k q a l. g.clear k q a (start_before xs q g.here (omega (arith, g.place)));
    again = λ l. absurd (omega arith);
  }

  module _ (inside : i < length xs) where
    pub slotted_read : Read xs i
    slotted_read = rw g.place (start_whole xs f g.here (omega (arith, g.place)))

    pub slotted_seen : SlotHolds xs slots (text_at xs i) → First xs i
    slotted_seen e =
        let d = g.drawn e.at e.full in
        record {
          within = omega arith;
          clear = λ k q a l. g.clear k q a (start_before xs q g.here (omega (arith, g.place)));
          again = λ l. record {
            later = g.here;
            earlier = d.index;
            is = g.place;
            order = d.below;
            same = d.same ∙ sym e.same ∙ ap (text_at xs) g.place;
          };
        }

    module _ (j : ℕ) (s : Free xs slots (text_at xs i) (home_of size (text_at xs i)) j) where
      -- the next name is new
      fresh : (k : ℕ) → k < g.here → name_of xs k ≡ text_at xs i → ⊥
      fresh k h e = go (ltb p.at j) refl (eqb j p.at) refl
        where
          p : Kept size xs slots (text_at xs i)
          p = rw e at (g.kept k h)

          go : (a : Bool) → ltb p.at j ≡ a → (b : Bool) → eqb j p.at ≡ b → ⊥
          go true l b d = s.other p.at p.from (ltb-true p.at j l) p.same
          go false l true d = let z : get_or slots j 0 ≡ get_or slots p.at 0 = ap (λ (n : ℕ). get_or slots n 0) (eqb-true j p.at d) in omega (arith, z, s.free, p.some)
          go false l false d =
              let a = ltb-false p.at j l in
              let b = eqb-false j p.at d in
              omega (arith, s.free, p.full j s.from (omega arith))

      abbrev new : List ℕ
      new = set slots j (i + 1)

      at_new : get_or new j 0 ≡ i + 1
      at_new = get_or-set_same slots j (i + 1) 0 s.below

      held_new : held xs new j ≡ name_of xs g.here
      held_new = let e : i + 1 - 1 ≡ i = omega arith in ap (λ (n : ℕ). text_at xs (n - 1)) at_new ∙ ap (text_at xs) (e ∙ g.place)

      other : (l : ℕ) → (l ≡ j → ⊥) → get_or new l 0 ≡ get_or slots l 0
      other l d = get_or-set_other slots j l (i + 1) 0 d

      held_other : (l : ℕ) → (l ≡ j → ⊥) → held xs new l ≡ held xs slots l
      held_other l d = ap (λ (n : ℕ). text_at xs (n - 1)) (other l d)

      inside_new : (l : ℕ) → get_or new l 0 ≤ length xs
      inside_new l = go (eqb l j) refl
        where
          go : (t : Bool) → eqb l j ≡ t → get_or new l 0 ≤ length xs
          go true e = rw (eqb-true l j e) (omega (arith, at_new))
          go false e = omega (arith, other l (eqb-false l j e), g.inside l)

      drawn_new : (l : ℕ) → 0 < get_or new l 0 → Drawn xs (g.here + 1) (held xs new l)
      drawn_new l h = go (eqb l j) refl
        where
          go : (t : Bool) → eqb l j ≡ t → Drawn xs (g.here + 1) (held xs new l)
          go true e = rw (eqb-true l j e) (record { index = g.here; below = omega arith; same = sym held_new })
          go false e =
              let n = eqb-false l j e in
              let d = g.drawn l (omega (arith, other l n)) in
              record { index = d.index; below = omega (arith, d.below); same = d.same ∙ sym (held_other l n) }

      -- a slot that was full still is
      still : (l : ℕ) → 0 < get_or slots l 0 → 0 < get_or new l 0
      still l h = go (eqb l j) refl
        where
          go : (t : Bool) → eqb l j ≡ t → 0 < get_or new l 0
          go true e = rw (eqb-true l j e) (omega (arith, at_new))
          go false e = omega (arith, other l (eqb-false l j e))

      kept_still : (t : List ℕ) → Kept size xs slots t → Kept size xs new t
      kept_still t p =
          let n : p.at ≡ j → ⊥ = λ e. let z : get_or slots p.at 0 ≡ get_or slots j 0 = ap (λ (n : ℕ). get_or slots n 0) e in omega (arith, z, s.free, p.some) in
          record { at = p.at; from = p.from; some = still p.at p.some; same = p.same ∙ sym (held_other p.at n); full = λ l a b. still l (p.full l a b) }

      kept_new : Kept size xs new (text_at xs i)
      kept_new = record { at = j; from = s.from; some = omega (arith, at_new); same = ap (text_at xs) g.place ∙ sym held_new; full = λ l a b. still l (s.full l a b) }

      pub slotted_more : (end : ℕ) → end ≡ i + element_size (drop i xs) → Slotted size xs (set slots j (i + 1)) end
      slotted_more end e = record {
        here = g.here + 1;
        place = e ∙ rw (start_next, ← g.place);
        size_is = length-set slots j (i + 1) ∙ g.size_is;
        inside = inside_new;
        drawn = drawn_new;
        kept = λ k h. keep k h (eqb k g.here) refl;
        clear = λ k q a h. clear k q a h (eqb q g.here) refl;
      }
        where
          keep : (k : ℕ) → k < g.here + 1 → (t : Bool) → eqb k g.here ≡ t → Kept size xs new (name_of xs k)
          keep k h true d =
              let e : text_at xs i ≡ name_of xs k = ap (text_at xs) g.place ∙ rw (eqb-true k g.here d) in
              rw e at kept_new
          keep k h false d = let n = eqb-false k g.here d in kept_still (name_of xs k) (g.kept k (omega arith))

          clear : (k q : ℕ) → k < q → q < g.here + 1 → (t : Bool) → eqb q g.here ≡ t → name_of xs k ≡ name_of xs q → ⊥
          clear k q a h true d e =
              let n = eqb-true q g.here d in
              fresh k (omega arith) ((rw n at e) ∙ ap (text_at xs) (sym g.place))
          clear k q a h false d e = let n = eqb-false q g.here d in g.clear k q a (omega arith) e
