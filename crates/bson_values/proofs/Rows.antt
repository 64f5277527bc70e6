-- Which types have rows in the table: those from 1 to 0x13, by a computed test, and of those above two, 0x7F and 0xFF.
-- Assumes nothing.
use Prim.Native.Nat.{ℕ, zero, suc, ◌≤◌, ◌<◌}
use mathlib.Core.Bool.{Bool, true, false}
use mathlib.Core.List.{List, [], ◌∷◌}
use mathlib.Core.Path.{◌≡◌, refl}
use native.Mathlib.Omega.{arith}
use native.Mathlib.Decide.{dec_lt}
use borrow.Author.Tests.{ne_eqb}
use Rattle.wire.specs.Outcome.{Outcome, ok, refused}
use Rattle.wire.specs.Bytes.{one_of}
use Rattle.wire.proofs.Meets.{met}
use Rattle.bson_values.specs.Value.{Rule, Row, table, rule_in}
use Rattle.bson_values.proofs.Value.{type_fits}

abbrev accepted : Outcome Rule → Bool
accepted (ok rule) = true
accepted (refused number place) = false

-- each of n numbers from 1 on has a row
unfoldable all_have : ℕ → Bool
all_have zero = true
all_have (suc n) = elim (accepted (rule_in table 0 (suc n))) [ true ↦ all_have n | false ↦ false ]

has : (o : Outcome Rule) → accepted o ≡ true → (rule : Rule) × (o ≡ ok rule)
has (ok rule) h = (rule, refl)
has (refused number place) h = let z : ◌≡◌ {A = ℕ} 0 1 = cc in absurd (omega arith)

one_of_all : (n t : ℕ) → all_have n ≡ true → 0 < t → t ≤ n → accepted (rule_in table 0 t) ≡ true
unfolding all_have
one_of_all zero t h low high = absurd (omega arith)
one_of_all (suc n) t h low high = go (accepted (rule_in table 0 (suc n))) refl h (λ r l. one_of_all n t r low l)
  where
    go : (b : Bool) → accepted (rule_in table 0 (suc n)) ≡ b → ◌≡◌ {A = Bool} (elim b [ true ↦ all_have n | false ↦ false ]) true
        → (all_have n ≡ true → t ≤ n → accepted (rule_in table 0 t) ≡ true) → accepted (rule_in table 0 t) ≡ true
    go true e r less = elim (dec_lt n t) [ yes l ↦ let is : t ≡ suc n = omega arith in rw is e | no l ↦ less r (omega arith) ]
    go false e r less = let z : ◌≡◌ {A = ℕ} 0 1 = cc in absurd (omega arith)

computed : all_have 0x13 ≡ true
unfolding all_have table rule_in one_of
computed = refl

pub low_types : (at t : ℕ) → 0 < t → t ≤ 0x13 → (rule : Rule) × (rule_in table at t ≡ ok rule)
low_types at t low high =
    let found = has (rule_in table 0 t) (one_of_all 0x13 t computed low high) in
    (found.0, (met (type_fits 0 at t) found.1).0)

-- none of a list, and in no row
abbrev Apart : ℕ → List ℕ → Type 0
Apart t [] = Unit {0}
Apart t (y ∷ ys) = (t ≡ y → ⊥) × Apart t ys

abbrev Rowless : ℕ → List Row → Type 0
Rowless t [] = Unit {0}
Rowless t (row ∷ rows) = Apart t row.types × Rowless t rows

none_of : (t : ℕ) (ys : List ℕ) → Apart t ys → one_of ys t ≡ false
unfolding one_of
none_of t [] h = refl
none_of t (y ∷ ys) h = rw (one_of, ne_eqb _ _ h.0) (none_of t ys h.1)

rowless : (at t : ℕ) (rows : List Row) → Rowless t rows → rule_in rows at t ≡ refused 17 at
unfolding rule_in
rowless at t [] h = refl
rowless at t (row ∷ rows) h = rw (rule_in, none_of t row.types h.0) (rowless at t rows h.1)

-- a number above the table's, but for two
pub above_table : (at t : ℕ) → 0x13 < t → (t ≡ 0x7F → ⊥) → (t ≡ 0xFF → ⊥) → rule_in table at t ≡ refused 17 at
unfolding table
above_table at t h f g =
    rowless at t table (omega arith, (omega arith, (omega arith, (omega arith, (omega arith, (omega arith, omega arith))))))
