-- Laws of the names of elements, one after the other.
-- Assumes nothing.
use Prim.Native.Nat.{ℕ, zero, suc, ◌+◌, ◌-◌, ◌≤◌, ◌<◌}
use mathlib.Core.Path.{◌≡◌, refl, sym, ◌∙◌, ap}
use mathlib.Core.List.{List, [], ◌∷◌}
use native.Mathlib.Numerals.{sub-one}
use native.Mathlib.Omega.{arith}
use lib.ListN.{length, get_or, take, drop, length-drop, length-map}
use lib.Seq.{take_all}
use borrow.Author.Tests.{ne_eqb}
use Rattle.bson_elements.specs.Element.{element_size}
use Rattle.opmsg.specs.Names.{Name, element_names, texts, name_text, names_of}
use Rattle.opmsg.specs.Dotted.{elements_within}
use Rattle.opmsg.specs.Inner.{Filled, none, more}

-- bytes that elements fill, from the second element on
pub filled_next : {xs : List ℕ} → Filled xs → 0 < length xs → (0 < element_size xs) × (element_size xs ≤ length xs) × Filled (drop (element_size xs) xs)
filled_next none h = absurd (omega arith)
filled_next (more a b w f) h = (a, b, f)

-- and within the first element, where that is a document
pub filled_within : {xs : List ℕ} → Filled xs → 0 < length xs → get_or xs 0 0 ≡ 0x03 → Filled (elements_within xs)
filled_within none h = absurd (omega arith)
filled_within (more a b w f) h = w

pub names_end : (turns at : ℕ) → element_names turns at [] ≡ []
unfolding element_names
names_end zero at = refl
names_end (suc turns) at = refl

-- the name of the first element, and those of the rest
abbrev pub name_at : ℕ → List ℕ → Name
name_at at xs = record { place = at + 1; text = name_text xs }

pub names_next : (turns at : ℕ) (xs : List ℕ) → 0 < turns → 0 < length xs
    → element_names turns at xs ≡ name_at at xs ∷ element_names (turns - 1) (at + element_size xs) (drop (element_size xs) xs)
unfolding element_names
names_next zero at xs t l = absurd (omega arith)
names_next (suc turns) at xs t l = rw (sub-one (suc turns), element_names, ne_eqb (length xs) 0 (λ e. omega arith))

-- more turns than bytes change nothing
pub names_turns : (m n at : ℕ) (xs : List ℕ) → Filled xs → length xs ≤ m → length xs ≤ n → element_names m at xs ≡ element_names n at xs
names_turns zero n at [] f k l = names_end zero at ∙ sym (names_end n at)
names_turns zero n at (x ∷ xs) f k l = absurd (omega arith)
names_turns (suc m) n at [] f k l = names_end (suc m) at ∙ sym (names_end n at)
names_turns (suc m) n at (x ∷ xs) f k l =
    let p = filled_next f (omega arith) in
    let short : length (drop (element_size (x ∷ xs)) (x ∷ xs)) ≤ length xs = rw length-drop (omega arith) in
    names_next (suc m) at (x ∷ xs) (omega arith) (omega arith)
    ∙ rw (sub-one (suc m)) (ap (λ (ns : List Name). name_at at (x ∷ xs) ∷ ns) (names_turns m (n - 1) _ _ p.2 (omega arith) (omega arith)))
    ∙ sym (names_next n at (x ∷ xs) (omega arith) (omega arith))

-- the texts do not depend on the places
names_places : (turns a b : ℕ) (xs : List ℕ) → texts (element_names turns a xs) ≡ texts (element_names turns b xs)
unfolding texts
names_places zero a b xs = unfold element_names in refl
names_places (suc turns) a b [] = unfold element_names in refl
names_places (suc turns) a b (x ∷ xs) =
    rw (names_next (suc turns) a (x ∷ xs) (omega arith) (omega arith), names_next (suc turns) b (x ∷ xs) (omega arith) (omega arith), sub-one (suc turns))
    (ap (λ (ts : List (List ℕ)). name_text (x ∷ xs) ∷ ts) (names_places turns (a + element_size (x ∷ xs)) (b + element_size (x ∷ xs)) (drop (element_size (x ∷ xs)) (x ∷ xs))))

pub names_of_lem : (turns at : ℕ) (xs : List ℕ) → Filled xs → length xs ≤ turns → texts (element_names turns at xs) ≡ names_of xs
unfolding names_of
names_of_lem turns at xs f l = names_places turns at 0 xs ∙ ap texts (names_turns turns (length xs) 0 xs f l (omega arith))

-- there are no more names than bytes
pub names_few : (turns at : ℕ) (xs : List ℕ) → Filled xs → length (element_names turns at xs) ≤ length xs
names_few zero at xs f = unfold element_names in omega arith
names_few (suc turns) at [] f = unfold element_names in omega arith
names_few (suc turns) at (x ∷ xs) f =
    let p = filled_next f (omega arith) in
    let rest = names_few turns (at + element_size (x ∷ xs)) (drop (element_size (x ∷ xs)) (x ∷ xs)) p.2 in
    rw (names_next (suc turns) at (x ∷ xs) (omega arith) (omega arith), sub-one (suc turns)) (omega (arith, rest, length-drop (element_size (x ∷ xs)) (x ∷ xs)))

pub all_names : (xs : List ℕ) → Filled xs → take (length xs) (names_of xs) ≡ names_of xs
unfolding names_of texts
all_names xs f = take_all (length xs) _ (rw length-map (names_few (length xs) 0 xs f))
