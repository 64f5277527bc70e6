-- Laws of the element table: a value that is read fits the bytes that it was read from, and is read so at any place.
-- Assumes nothing.
use Prim.Native.Nat.{ℕ, ◌+◌, ◌-◌, ◌≤◌}
use mathlib.Core.Bool.{Bool, true, false}
use mathlib.Core.Path.{◌≡◌, refl, ◌∙◌}
use mathlib.Core.Logic.{◌⊎◌, inl, inr}
use mathlib.Core.List.{List, [], ◌∷◌}
use native.Mathlib.Omega.{arith}
use lib.ListN.{length, take, drop, length-take, length-drop}
use borrow.Author.Tests.{ltb-false, leb-false}
use Rattle.wire.specs.Outcome.{Outcome, ok, ◌>>=◌}
use Rattle.wire.specs.Bytes.{word, until_zero, one_of}
use Rattle.wire.proofs.Outcome.{pass, go_on}
use Rattle.wire.proofs.Bytes.{under_false}
use Rattle.wire.proofs.Meets.{Meets, good, fault, other_fault, then, check}
use Rattle.utf8.specs.Text.{well_formed, text_at}
use Rattle.utf8.proofs.Longest.{text_is_utf8}
use Rattle.bson_values.specs.Value.{Value, plain, embedded, scoped, sized, boolean, cstring, string, binary, regex, pointer, code_with_scope, bytes, Rule, Row, table, rule_in}

-- an answer whose refusal has this number and place alone
abbrev pub Only : {A : Type 0} → (n p : ℕ) → (A → Type 0) → Outcome A → Type 0
Only n p P o = Meets P (λ number place. (number ≡ n) × (place ≡ p)) o

-- a refusal of the value at place v: 19 there, or 27 in its text, which ends at a place
abbrev pub ValueFault : (v to number place : ℕ) → Type 0
ValueFault v to number place = ((number ≡ 19) × (place ≡ v)) ⊎ ((number ≡ 27) × (place ≤ to))

further : {A : Type 0} {P : A → Type 0} {o : Outcome A} {v to : ℕ} (end : ℕ) → to ≤ end → Meets P (ValueFault v to) o → Meets P (ValueFault v end) o
further end l = other_fault (λ number place q. elim q [ inl f ↦ inl f | inr f ↦ inr (f.0, omega (arith, f.1)) ])

-- of a text within xs, 27 is placed within it
text_fault : (v at : ℕ) (xs : List ℕ) {to : ℕ} → at + length xs ≤ to → ValueFault v to 27 (at + well_formed xs)
text_fault v at xs l = inr (refl, omega (arith, (text_is_utf8.longest xs).fits))

-- a number of bytes that fits, and is the same at any place
abbrev Fits : ((v at : ℕ) → List ℕ → Outcome ℕ) → Type 0
Fits f = (v at w b : ℕ) (xs : List ℕ) → Meets (λ n. (f w b xs ≡ ok n) × (n ≤ length xs)) (ValueFault v (at + length xs)) (f v at xs)

sized_fits : (k : ℕ) → Fits (λ v at xs. sized v k xs)
unfolding sized
sized_fits k v at w b xs = check 19 v _ _ (inl (refl, refl)) λ c. good (pass 19 w _ c, ltb-false (length xs) k c)

boolean_fits : Fits (λ v at xs. boolean v xs)
unfolding boolean
boolean_fits v at w b xs =
    check 19 v _ _ (inl (refl, refl)) λ c.
    check 19 v _ _ (inl (refl, refl)) λ d.
    good (pass 19 w _ c ∙ pass 19 w _ d, ltb-false (length xs) 1 c)

cstring_fits : Fits cstring
unfolding cstring text_at
cstring_fits v at w b xs =
    let n = until_zero xs in
    check 19 v _ _ (inl (refl, refl)) λ c.
    check 27 _ _ _ (text_fault v at (take n xs) (omega (arith, length-take n xs))) λ d.
    good (pass 19 w _ c ∙ pass 27 _ _ d, omega (arith, leb-false (length xs) n c))

string_fits : Fits string
unfolding string text_at
string_fits v at w b xs =
    let n = word xs in
    let text = take (n - 1) (drop 4 xs) in
    check 19 v _ _ (inl (refl, refl)) λ c.
    check 19 v _ _ (inl (refl, refl)) λ d.
    check 19 v _ _ (inl (refl, refl)) λ e.
    check 19 v _ _ (inl (refl, refl)) λ f.
    check 27 _ _ _ (text_fault v (at + 4) text (omega (arith, length-take (n - 1) (drop 4 xs), length-drop 4 xs, ltb-false (length xs) 4 c))) λ g.
    good (pass 19 w _ c ∙ pass 19 w _ d ∙ pass 19 w _ e ∙ pass 19 w _ f ∙ pass 27 _ _ g, ltb-false (length xs) (4 + n) e)

binary_fits : Fits (λ v at xs. binary v xs)
unfolding binary
binary_fits v at w b xs =
    check 19 v _ _ (inl (refl, refl)) λ c.
    check 19 v _ _ (inl (refl, refl)) λ d.
    check 19 v _ _ (inl (refl, refl)) λ e.
    check 19 v _ _ (inl (refl, refl)) λ f.
    check 19 v _ _ (inl (refl, refl)) λ g.
    good (pass 19 w _ c ∙ pass 19 w _ d ∙ pass 19 w _ e ∙ pass 19 w _ f ∙ pass 19 w _ g, ltb-false (length xs) (5 + word xs) e)

-- one thing behind another
joined : (f g : (v at : ℕ) → List ℕ → Outcome ℕ) → Fits f → Fits g → Fits (λ v at xs. f v at xs >>= λ m. g v (at + m) (drop m xs) >>= λ n. ok (m + n))
joined f g i j v at w b xs =
    then _ (i v at w b xs) λ m _ k.
    then _ (further (at + length xs) (omega (arith, k.1, length-drop m xs)) (j v (at + m) w (b + m) (drop m xs))) λ n _ l.
    good (go_on _ k.0 ∙ go_on _ l.0, omega (arith, k.1, l.1, length-drop m xs))

-- a value that fits
abbrev pub ValueWithin : Value → List ℕ → Type 0
ValueWithin (plain n) xs = n ≤ length xs
ValueWithin embedded xs = Unit {0}
ValueWithin (scoped start size) xs = (start ≤ size) × (size ≤ length xs)

-- a rule whose values fit, and are the same at any place
abbrev pub RuleFits : Rule → Type 0
RuleFits f = (v w : ℕ) (xs : List ℕ) → Meets (λ x. (f w xs ≡ ok x) × ValueWithin x xs) (ValueFault v (v + length xs)) (f v xs)

bytes_fits : (f : (v at : ℕ) → List ℕ → Outcome ℕ) → Fits f → RuleFits (λ v xs. bytes (f v v xs))
bytes_fits f i v w xs = then _ (i v v w w xs) λ n _ k. good (go_on _ k.0, k.1)

regex_fits : RuleFits (λ v xs. bytes (regex v xs))
unfolding regex
regex_fits = bytes_fits _ (joined cstring cstring cstring_fits cstring_fits)

pointer_fits : RuleFits (λ v xs. bytes (pointer v xs))
unfolding pointer
pointer_fits = bytes_fits _ (joined string (λ v at xs. sized v 12 xs) string_fits (sized_fits 12))

code_with_scope_fits : RuleFits code_with_scope
unfolding code_with_scope
code_with_scope_fits v w xs =
    let inner = take (word xs - 4) (drop 4 xs) in
    let long = length-take (word xs - 4) (drop 4 xs) in
    check 19 v _ _ (inl (refl, refl)) λ c.
    check 19 v _ _ (inl (refl, refl)) λ d.
    check 19 v _ _ (inl (refl, refl)) λ e.
    let l = under_false 14 (word xs) d in
    then _ (further (v + length xs) (omega (arith, long, length-drop 4 xs, ltb-false (length xs) 4 c)) (string_fits v (v + 4) w (w + 4) inner)) λ n _ k.
    good (
      pass 19 w _ c ∙ pass 19 w _ d ∙ pass 19 w _ e ∙ go_on _ k.0,
      (omega (arith, k.1, l.0, long), ltb-false (length xs) (word xs) e),
    )

-- the rules of all rows of a table
infixr 50 ◌and◌
data Rules (P : Rule → Type 0) : List Row → Type 0 where
  none : Rules P []
  ◌and◌ : {row : Row} {rows : List Row} → P row.rule → Rules P rows → Rules P (row ∷ rows)

table_fits : Rules RuleFits table
unfolding table
table_fits =
    bytes_fits _ (sized_fits 8)
    and bytes_fits _ (sized_fits 4)
    and bytes_fits _ (sized_fits 16)
    and bytes_fits _ (sized_fits 12)
    and bytes_fits _ boolean_fits
    and bytes_fits _ (sized_fits 0)
    and bytes_fits _ string_fits
    and bytes_fits _ binary_fits
    and regex_fits
    and pointer_fits
    and (λ v w xs. good (refl, tt))
    and code_with_scope_fits
    and none

-- the rule that is found at a place is found at another, and its values fit
abbrev pub Finds : (at : ℕ) (here there : Outcome Rule) → Type 0
Finds at here there = Only 17 at (λ rule. (there ≡ ok rule) × RuleFits rule) here

rule_fits : (rows : List Row) (at b t : ℕ) → Rules RuleFits rows → Finds at (rule_in rows at t) (rule_in rows b t)
unfolding rule_in
rule_fits [] at b t none = fault (refl, refl)
rule_fits (r ∷ rows) at b t (k and ks) = go (one_of r.types t) (rule_fits rows at b t ks)
  where
    go : (c : Bool) → Finds at (rule_in rows at t) (rule_in rows b t)
        → Finds at (elim c [ true ↦ ok r.rule | false ↦ rule_in rows at t ]) (elim c [ true ↦ ok r.rule | false ↦ rule_in rows b t ])
    go true ih = good (refl, k)
    go false ih = ih

-- the rule of a type is the same at any place, and its values fit
pub type_fits : (at b t : ℕ) → Finds at (rule_in table at t) (rule_in table b t)
type_fits at b t = rule_fits table at b t table_fits
