-- Sections that get their places one behind the other.
-- Assumes nothing.
use Prim.Native.Nat.{ℕ, ◌+◌, ◌≤◌, ◌<◌}
use mathlib.Core.Path.{◌≡◌, refl, ap, ◌∙◌}
use mathlib.Core.List.{List, [], ◌∷◌, ◌++◌, map}
use native.Mathlib.Omega.{arith}
use lib.ListN.{length, take, drop, set}
use Rattle.opmsg.specs.Sections.{max_sections, section_size}
use Rattle.opmsg.specs.View.{padded}
use Rattle.opmsg.specs.Inner.{first_sections}
use Rattle.opmsg.specs.declared.Section.{Section}
use Rattle.opmsg.specs.declared.Entry.{Entry}
use Rattle.opmsg.proofs.Shown.{padded_set}
use Rattle.opmsg.proofs.Entries.{said_at, first_split, first_next, first_length}
use Rattle.message.specs.Moving.{placed, placed_from}
use Rattle.message_move.specs.Inner.{total_size}

pub total_append : (qs rs : List Section) → total_size (qs ++ rs) ≡ total_size qs + total_size rs
unfolding total_size
total_append [] rs = omega arith
total_append (q ∷ qs) rs = omega (arith, total_append qs rs)

placed_length : (at : ℕ) (qs : List Section) → length (placed_from at qs) ≡ length qs
unfolding placed_from
placed_length at [] = refl
placed_length at (q ∷ qs) = omega (arith, placed_length (at + section_size q) qs)

placed_next : (at : ℕ) (qs : List Section) (q : Section) → placed_from at (qs ++ (q ∷ [])) ≡ placed_from at qs ++ (placed (at + total_size qs) q ∷ [])
unfolding placed_from total_size
placed_next at [] q = let e : at + 0 ≡ at = omega arith in rw e
placed_next at (r ∷ qs) q =
    let e : at + section_size r + total_size qs ≡ at + (section_size r + total_size qs) = omega arith in
    rw (placed_next (at + section_size r) qs q, e)

-- ---- in code: the sections of the first i entries have their places, and the next one's is `at`

abbrev pub Placing : List Entry → (i at : ℕ) → List Entry → Type 0
Placing list i at entries = (at ≡ 20 + total_size (first_sections i list)) × (entries ≡ padded (placed_from 20 (first_sections i list)))

pub places_none : (list : List Entry) → Placing list 0 20 (padded [])
unfolding total_size placed_from
places_none list = (refl, refl)

module _ (list : List Entry) (i : ℕ) (more : i < length list) where
  pub total_next : total_size (first_sections (i + 1) list) ≡ total_size (first_sections i list) + section_size (said_at list i)
  unfolding total_size
  total_next = ap total_size (first_next list i more) ∙ total_append (first_sections i list) (said_at list i ∷ []) ∙ omega arith

  pub total_within : (n : ℕ) → i + 1 ≤ n → total_size (first_sections i list) + section_size (said_at list i) ≤ total_size (first_sections n list)
  total_within n h =
      let rest = map (λ (x : Entry). x.section) (drop (i + 1) (take n list)) in
      omega (arith, total_next, ap total_size (first_split list (i + 1) n h), total_append (first_sections (i + 1) list) rest)

  pub places_next : (at : ℕ) (entries : List Entry) → length list ≤ max_sections → Placing list i at entries
      → Placing list (i + 1) (at + section_size (said_at list i)) (set entries i (record { section = placed at (said_at list i) }))
  places_next at entries few p =
      let qs = first_sections i list in
      let long = placed_length 20 qs ∙ first_length list i (omega arith) in (
        omega (arith, p.0, total_next),
        rw (p.1, first_next list i more, placed_next 20 qs (said_at list i), p.0) (rw long at (padded_set (placed_from 20 qs) (placed (20 + total_size qs) (said_at list i)) (omega (arith, long)))),
      )
