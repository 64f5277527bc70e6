-- Laws of a table of places sorted by the names there.
-- Assumes nothing.
use Prim.Native.Nat.{ℕ, ◌+◌, ◌-◌, ◌<◌, ◌≤◌}
use mathlib.Core.Bool.{Bool, true, false}
use mathlib.Core.List.{List}
use mathlib.Core.Path.{◌≡◌, refl, ap, ◌∙◌}
use Rattle.std.specs.List.{CopiedTo, SameBelow}
use native.Mathlib.Omega.{arith}
use lib.ListN.{length, get_or, set}
use lib.Seq.{get_or-set_same, get_or-set_other}
use lib.Dec.{eqb}
use borrow.Author.Tests.{eqb-true, eqb-false}
use Rattle.opmsg_element_names.specs.Inner.{Less}
use Rattle.opmsg_name_blocks.specs.Inner.{entry, Sorted, Between, Inserted}
use Rattle.opmsg_element_names.proofs.Ordering.{less_trans}

-- an entry is put in: those from place i on stand one place further
pub put_in : (old moved : List ℕ) (m i p : ℕ) → i ≤ m → m < length old → length moved ≡ length old
    → CopiedTo old moved i (i + 1) (m - i) → SameBelow old moved (i + 1) → Inserted old m i p (set moved i p)
put_in old moved m i p h r l c b = record {
  under = λ k n. get_or-set_other moved i k p 0 (λ e. omega arith) ∙ b k 0 (omega arith);
  there = get_or-set_same moved i p 0 (omega arith);
  over = λ k n o.
      let e : i + (k + 1 - (i + 1)) ≡ k = omega arith in
      get_or-set_other moved i (k + 1) p 0 (λ e. omega arith) ∙ c (k + 1) 0 (omega arith) (omega arith) ∙ ap (λ (j : ℕ). get_or old j 0) e;
}

-- ---- a text is looked up: the entries before place `low` come before it, and those from place `high` on after it

pub record Narrowed (xs table : List ℕ) (m : ℕ) (text : List ℕ) (low high : ℕ) : Type 0 where
  pub order : low ≤ high
  pub within : high ≤ m
  pub under : (j : ℕ) → j < low → Less (entry xs table j) text
  pub over : (j : ℕ) → high ≤ j → j < m → Less text (entry xs table j)

module _ (xs table : List ℕ) (m : ℕ) (text : List ℕ) where
  pub narrowed_none : Narrowed xs table m text 0 m
  narrowed_none = record { order = omega arith; within = omega arith; under = λ j h. absurd (omega arith); over = λ j h k. absurd (omega arith) }

  module _ (s : Sorted xs table m) (low high : ℕ) (n : Narrowed xs table m text low high) where
    pub narrowed_left : (j : ℕ) → low ≤ j → j < high → Less text (entry xs table j) → Narrowed xs table m text low j
    narrowed_left j a b l = record { order = a; within = omega (arith, n.within); under = n.under; over = λ i h k. go i h k (eqb j i) refl }
      where
        go : (i : ℕ) → j ≤ i → i < m → (t : Bool) → eqb j i ≡ t → Less text (entry xs table i)
        go i h k true e = rw (eqb-true j i e) at l
        go i h k false e = let d = eqb-false j i e in less_trans l (s.ascending j i (omega arith) k)

    pub narrowed_right : (j : ℕ) → low ≤ j → j < high → Less (entry xs table j) text → Narrowed xs table m text (j + 1) high
    narrowed_right j a b l = record { order = omega arith; within = n.within; under = λ i h. go i h (eqb j i) refl; over = n.over }
      where
        go : (i : ℕ) → i < j + 1 → (t : Bool) → eqb j i ≡ t → Less (entry xs table i) text
        go i h true e = rw (eqb-true j i e) at l
        go i h false e = let d = eqb-false j i e in less_trans (s.ascending i j (omega arith) (omega (arith, n.within))) l

    pub narrowed_all : high ≤ low → Between xs table m text low
    narrowed_all h = record { within = omega (arith, n.order, n.within); under = n.under; over = λ j l k. n.over j (omega arith) k }
