-- Laws of the fields of a line: what stands before a newline, and fields that are parted again as they were joined.
-- Assumes nothing.
use Prim.Native.Nat.{ℕ, suc, ◌<◌}
use mathlib.Core.Bool.{Bool, true, false, ◌&&◌}
use mathlib.Core.Path.{◌≡◌, refl, sym, ap, ◌∙◌}
use mathlib.Core.List.{List, [], ◌∷◌, ◌++◌, append_assoc}
use native.Mathlib.Omega.{arith}
use lib.ListN.{length, take, drop}
use lib.Seq.{take-append_seam}
use lib.Dec.{eqb}
use lib.Pointwise.{pointwise}
use borrow.Author.Tests.{eqb-true, eq-eqb, ne_eqb}
use Rattle.opmsg.specs.Names.{same_text}
use Rattle.listing_lines.specs.Fields.{tab, newline, line}
use Rattle.listing_fields.specs.Numbers.{until_newline, ahead, fields_of}

-- ---- texts that are compared

pub text_same : (xs : List ℕ) → same_text xs xs ≡ true
unfolding same_text
text_same [] = refl
text_same (x ∷ xs) = rw (same_text, eq-eqb x x refl) (text_same xs)

pub same_text_lem : (xs ys : List ℕ) → same_text xs ys ≡ true → xs ≡ ys
unfolding same_text
same_text_lem [] [] h = refl
same_text_lem [] (y ∷ ys) h = let z : ◌≡◌ {A = ℕ} 0 1 = cc in absurd (omega arith)
same_text_lem (x ∷ xs) [] h = let z : ◌≡◌ {A = ℕ} 0 1 = cc in absurd (omega arith)
same_text_lem (x ∷ xs) (y ∷ ys) h = go (eqb x y) refl (same_text_lem xs ys) h
  where
    go : (b : Bool) → eqb x y ≡ b → (same_text xs ys ≡ true → xs ≡ ys) → ◌≡◌ {A = Bool} (elim b [ true ↦ same_text xs ys | false ↦ false ]) true → x ∷ xs ≡ y ∷ ys
    go true e ih h = let a = eqb-true x y e in let b = ih h in cc
    go false e ih h = let z : ◌≡◌ {A = ℕ} 0 1 = cc in absurd (omega arith)

-- it is the library's comparison
pub same_text_eq : (xs ys : List ℕ) → pointwise eqb xs ys ≡ same_text xs ys
unfolding same_text
same_text_eq [] [] = refl
same_text_eq [] (y ∷ ys) = refl
same_text_eq (x ∷ xs) [] = refl
same_text_eq (x ∷ xs) (y ∷ ys) = go (eqb x y) (same_text_eq xs ys)
  where
    go : (b : Bool) → pointwise eqb xs ys ≡ same_text xs ys → (b && pointwise eqb xs ys) ≡ elim b [ true ↦ same_text xs ys | false ↦ false ]
    go true e = e
    go false e = refl

-- ---- bytes before a newline

-- no byte is a newline
abbrev pub OneLine : List ℕ → Type 0
OneLine [] = Unit {0}
OneLine (x ∷ xs) = (eqb x newline ≡ false) × OneLine xs

pub until_end : (xs ys : List ℕ) → OneLine xs → until_newline (xs ++ newline ∷ ys) ≡ length xs
unfolding until_newline
until_end [] ys h = refl
until_end (x ∷ xs) ys h = rw (until_newline, h.0) (ap suc (until_end xs ys h.1))

until_stop : (x : ℕ) (xs : List ℕ) → eqb x newline ≡ true → until_newline (x ∷ xs) ≡ 0
unfolding until_newline
until_stop x xs e = rw (until_newline, e)

until_go : (x : ℕ) (xs : List ℕ) → eqb x newline ≡ false → until_newline (x ∷ xs) ≡ suc (until_newline xs)
unfolding until_newline
until_go x xs e = rw (until_newline, e)

-- what stands before the first newline is one line
pub until_line : (xs : List ℕ) → OneLine (take (until_newline xs) xs)
until_line [] = unfold until_newline in tt
until_line (x ∷ xs) = go (eqb x newline) refl (until_line xs)
  where
    go : (b : Bool) → eqb x newline ≡ b → OneLine (take (until_newline xs) xs) → OneLine (take (until_newline (x ∷ xs)) (x ∷ xs))
    go true e ih = rw (until_stop x xs e) tt
    go false e ih = rw (until_go x xs e) (e, ih)

-- and the newline behind it
pub until_split : (xs : List ℕ) → until_newline xs < length xs → xs ≡ take (until_newline xs) xs ++ newline ∷ drop (suc (until_newline xs)) xs
until_split [] h = absurd (omega arith)
until_split (x ∷ xs) h = go (eqb x newline) refl (until_split xs)
  where
    go : (b : Bool) → eqb x newline ≡ b → (until_newline xs < length xs → xs ≡ take (until_newline xs) xs ++ newline ∷ drop (suc (until_newline xs)) xs)
        → x ∷ xs ≡ take (until_newline (x ∷ xs)) (x ∷ xs) ++ newline ∷ drop (suc (until_newline (x ∷ xs))) (x ∷ xs)
    go true e ih = rw (until_stop x xs e) (ap (λ (y : ℕ). y ∷ xs) (eqb-true x newline e))
    go false e ih = rw (until_go x xs e) (ap (λ (l : List ℕ). x ∷ l) (ih (omega (arith, until_go x xs e))))

-- ---- fields

-- fields parted by tabs: a line without its newline
unfoldable pub joined : List (List ℕ) → List ℕ
joined [] = []
joined (f ∷ []) = f
joined (f ∷ g ∷ fs) = f ++ tab ∷ joined (g ∷ fs)

pub line_joined : (fs : List (List ℕ)) → line fs ≡ joined fs ++ newline ∷ []
unfolding line joined
line_joined [] = refl
line_joined (f ∷ []) = refl
line_joined (f ∷ g ∷ fs) = rw (line_joined (g ∷ fs)) (sym (append_assoc f (tab ∷ joined (g ∷ fs)) (newline ∷ [])))

-- bytes that are neither tabs nor newlines: all are above 10
abbrev pub Plain : List ℕ → Type 0
Plain [] = Unit {0}
Plain (x ∷ xs) = (10 < x) × Plain xs

abbrev pub AllPlain : List (List ℕ) → Type 0
AllPlain [] = Unit {0}
AllPlain (f ∷ fs) = Plain f × AllPlain fs

one_append : (xs ys : List ℕ) → Plain xs → OneLine ys → OneLine (xs ++ ys)
one_append [] ys h k = k
one_append (x ∷ xs) ys h k = (ne_eqb x newline (λ e. omega (arith, h.0)), one_append xs ys h.1 k)

pub plain_line : (xs : List ℕ) → Plain xs → OneLine xs
plain_line [] h = tt
plain_line (x ∷ xs) h = (ne_eqb x newline (λ e. omega (arith, h.0)), plain_line xs h.1)

pub joined_line : (fs : List (List ℕ)) → AllPlain fs → OneLine (joined fs)
unfolding joined
joined_line [] h = tt
joined_line (f ∷ []) h = plain_line f h.0
joined_line (f ∷ g ∷ fs) h = one_append f (tab ∷ joined (g ∷ fs)) h.0 (refl, joined_line (g ∷ fs) h.1)

-- a field, and what is parted behind it
fields_go : (x : ℕ) (xs : List ℕ) → 10 < x → fields_of (x ∷ xs) ≡ ahead x (fields_of xs)
unfolding fields_of
fields_go x xs h = rw (fields_of, ne_eqb x tab (λ e. omega arith))

fields_plain : (f : List ℕ) → Plain f → fields_of f ≡ f ∷ []
fields_plain [] h = unfold fields_of in refl
fields_plain (x ∷ f) h = fields_go x f h.0 ∙ rw (fields_plain f h.1) (unfold ahead in refl)

fields_tab : (f xs : List ℕ) → Plain f → fields_of (f ++ tab ∷ xs) ≡ f ∷ fields_of xs
fields_tab [] xs h = unfold fields_of in refl
fields_tab (x ∷ f) xs h = fields_go x (f ++ tab ∷ xs) h.0 ∙ rw (fields_tab f xs h.1) (unfold ahead in refl)

-- fields that are joined are parted again
pub fields_joined : (f : List ℕ) (fs : List (List ℕ)) → AllPlain (f ∷ fs) → fields_of (joined (f ∷ fs)) ≡ f ∷ fs
unfolding joined
fields_joined f [] h = fields_plain f h.0
fields_joined f (g ∷ fs) h = fields_tab f (joined (g ∷ fs)) h.0 ∙ ap (λ (l : List (List ℕ)). f ∷ l) (fields_joined g fs h.1)

-- and those that are parted are joined again
ahead_joined : (x : ℕ) (fs : List (List ℕ)) → joined (ahead x fs) ≡ x ∷ joined fs
unfolding joined ahead
ahead_joined x [] = refl
ahead_joined x (f ∷ []) = refl
ahead_joined x (f ∷ g ∷ fs) = refl

behind_joined : (fs : List (List ℕ)) → 0 < length fs → joined ([] ∷ fs) ≡ tab ∷ joined fs
unfolding joined
behind_joined [] h = absurd (omega arith)
behind_joined (f ∷ fs) h = refl

ahead_some : (x : ℕ) (fs : List (List ℕ)) → 0 < length (ahead x fs)
unfolding ahead
ahead_some x [] = omega arith
ahead_some x (f ∷ fs) = omega arith

pub fields_some : (xs : List ℕ) → 0 < length (fields_of xs)
unfolding fields_of
fields_some [] = omega arith
fields_some (x ∷ xs) = go (eqb x tab)
  where
    go : (b : Bool) → 0 < length {A = List ℕ} (elim b [ true ↦ [] ∷ fields_of xs | false ↦ ahead x (fields_of xs) ])
    go true = omega arith
    go false = ahead_some x (fields_of xs)

pub joined_fields : (xs : List ℕ) → joined (fields_of xs) ≡ xs
unfolding fields_of
joined_fields [] = unfold joined in refl
joined_fields (x ∷ xs) = go (eqb x tab) refl (joined_fields xs)
  where
    go : (b : Bool) → eqb x tab ≡ b → joined (fields_of xs) ≡ xs → joined (elim b [ true ↦ [] ∷ fields_of xs | false ↦ ahead x (fields_of xs) ]) ≡ x ∷ xs
    go true e ih = let a = eqb-true x tab e in behind_joined (fields_of xs) (fields_some xs) ∙ rw (ih, a)
    go false e ih = ahead_joined x (fields_of xs) ∙ rw ih

-- ---- lines

-- a line is written of the fields that it has
pub line_fields : (xs : List ℕ) → line (fields_of xs) ≡ xs ++ newline ∷ []
line_fields xs = line_joined (fields_of xs) ∙ rw (joined_fields xs)

-- and the fields of a line that was written, whatever comes behind it, are read again
pub fields_line : (f : List ℕ) (fs : List (List ℕ)) (ys : List ℕ) → AllPlain (f ∷ fs)
    → fields_of (take (until_newline (line (f ∷ fs) ++ ys)) (line (f ∷ fs) ++ ys)) ≡ f ∷ fs
fields_line f fs ys h =
    let l = joined (f ∷ fs) in
    let e : line (f ∷ fs) ++ ys ≡ l ++ newline ∷ ys = rw (line_joined (f ∷ fs)) (append_assoc l (newline ∷ []) ys) in
    rw (e, until_end l ys (joined_line (f ∷ fs) h), take-append_seam l (newline ∷ ys)) (fields_joined f fs h)
