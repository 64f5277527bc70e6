-- Laws of a text's first name: byte by byte, and beside another name.
-- Assumes nothing.
use Prim.Native.Nat.{ℕ, zero, suc, ◌+◌, ◌-◌, ◌≤◌, ◌<◌}
use mathlib.Core.Bool.{Bool, true, false}
use mathlib.Core.Path.{◌≡◌, refl, sym, ◌∙◌, ap}
use mathlib.Core.List.{List, [], ◌∷◌, ◌++◌, append-nil}
use native.Mathlib.Numerals.{add-one}
use native.Mathlib.Omega.{arith}
use lib.ListN.{length, get_or, take, drop, length-take, drop_of_length-le}
use lib.Seq.{drop-cons, length-take-le, get_or-drop, get_or-take}
use lib.Dec.{ltb, eqb}
use borrow.Author.Tests.{ltb-true, ltb-false, eqb-true, eqb-false, eq-eqb, ne_eqb}
use Rattle.wire.proofs.Parts.{rest_part}
use Rattle.opmsg.specs.Names.{same_text}
use Rattle.opmsg.specs.Dotted.{until_dot}
use Rattle.opmsg_dotted.specs.Inner.{Undotted}
use Rattle.opmsg_element_names.proofs.Texts.{same_longer, same_text_lem}

-- the name before a text's first dot, or all of a text without one
abbrev pub first_name : List ℕ → List ℕ
first_name text = take (until_dot text) text

-- ---- the first dot

pub dot : (x : ℕ) (text : List ℕ) → eqb x 0x2E ≡ true → until_dot (x ∷ text) ≡ 0
unfolding until_dot
dot x text e = rw (until_dot, e)

pub no_dot : (x : ℕ) (text : List ℕ) → eqb x 0x2E ≡ false → until_dot (x ∷ text) ≡ suc (until_dot text)
unfolding until_dot
no_dot x text e = rw (until_dot, e)

pub dot_fits : (text : List ℕ) → until_dot text ≤ length text
dot_fits [] = unfold until_dot in omega arith
dot_fits (x ∷ text) = go (eqb x 0x2E) refl (dot_fits text)
  where
    go : (b : Bool) → eqb x 0x2E ≡ b → until_dot text ≤ length text → until_dot (x ∷ text) ≤ length (x ∷ text)
    go true e h = omega (arith, dot x text e)
    go false e h = omega (arith, no_dot x text e)

-- there is a dot, if not at the end
pub dot_there : (text : List ℕ) → until_dot text < length text → get_or text (until_dot text) 0 ≡ 0x2E
dot_there [] h = absurd (unfold until_dot in omega arith)
dot_there (x ∷ text) h = go (eqb x 0x2E) refl (dot_there text)
  where
    go : (b : Bool) → eqb x 0x2E ≡ b → (until_dot text < length text → get_or text (until_dot text) 0 ≡ 0x2E) → get_or (x ∷ text) (until_dot (x ∷ text)) 0 ≡ 0x2E
    go true e ih = rw (dot x text e) (eqb-true x 0x2E e)
    go false e ih = rw (no_dot x text e) (ih (omega (arith, no_dot x text e)))

-- and none before
pub dots_before : (text : List ℕ) (i : ℕ) → i < length text → get_or text i 0 ≡ 0x2E → until_dot text ≤ i
dots_before [] i h e = absurd (omega arith)
dots_before (x ∷ text) zero h e = omega (arith, dot x text (eq-eqb x 0x2E e))
dots_before (x ∷ text) (suc i) h e = go (eqb x 0x2E) refl (dots_before text i (omega arith) e)
  where
    go : (b : Bool) → eqb x 0x2E ≡ b → until_dot text ≤ i → until_dot (x ∷ text) ≤ suc i
    go true d ih = omega (arith, dot x text d)
    go false d ih = omega (arith, no_dot x text d)

module _ (text : List ℕ) (i : ℕ) where
  pub at_dot : i < length text → eqb (get_or text i 0) 0x2E ≡ true → until_dot (drop i text) ≡ 0
  at_dot h e = rw (drop-cons text i 0 h) (dot _ _ e)

  pub past_byte : i < length text → eqb (get_or text i 0) 0x2E ≡ false → until_dot (drop i text) ≡ suc (until_dot (drop (i + 1) text))
  past_byte h e = rw (add-one, drop-cons text i 0 h) (no_dot _ _ e)

  pub past_all : length text ≤ i → until_dot (drop i text) ≡ 0
  unfolding until_dot
  past_all h = rw (drop_of_length-le text h)

-- ---- bytes that are no dots

-- they stand before the first dot of what goes on behind them
pub plain_dots : (name tail : List ℕ) → Undotted (length name) name → until_dot (name ++ tail) ≡ length name + until_dot tail
plain_dots [] tail w = omega arith
plain_dots (x ∷ name) tail w = no_dot x (name ++ tail) (ne_eqb _ _ (w 0 (omega arith))) ∙ rw (plain_dots name tail (λ i h. w (suc i) (omega arith))) (omega arith)

pub no_dots : (text : List ℕ) → Undotted (length text) text → until_dot text ≡ length text
no_dots text w = unfold until_dot in omega (arith, rw (append-nil text) at (plain_dots text [] w))

-- some at the start, and some that stand k at most behind place m, which is among them or where they end
pub undotted_within : (i m n k : ℕ) (xs : List ℕ) → m ≤ i → n ≤ k → Undotted i xs → Undotted n (take k (drop m xs)) → Undotted (m + n) xs
undotted_within i m n k xs l f a b j h = go (ltb j i) refl
  where
    go : (t : Bool) → ltb j i ≡ t → get_or xs j 0 ≡ 0x2E → ⊥
    go true t e = a j (ltb-true j i t) e
    go false t e =
        let past = ltb-false j i t in
        let place : m + (j - m) ≡ j = omega arith in
        b (j - m) (omega arith) (rw (get_or-take k (drop m xs) (j - m) 0 (omega arith), get_or-drop, place) e)

-- the same of the whole part `&xs[m..]`, past whose end no byte is a dot
pub undotted_part : (i m n : ℕ) (xs : List ℕ) → m ≤ i → Undotted i xs → Undotted n (take (length xs - m) (drop m xs)) → Undotted (m + n) xs
undotted_part i m n xs l a b = undotted_within i m n n xs l (omega arith) a (λ j h e. b j h (rw rest_part (rw (get_or-take n (drop m xs) j 0 h) at e)))

-- ---- the first name of a text and a name, from place i on

pub first_short : (text name : List ℕ) → length text < length name → same_text (first_name text) name ≡ false
first_short text name h = same_longer _ _ (λ e. omega (arith, e, length-take (until_dot text) text))

-- a name that is the first one stands before the dot
pub first_length : (text name : List ℕ) → same_text (first_name text) name ≡ true → length name ≡ until_dot text
first_length text name e = sym (ap length (same_text_lem _ _ e)) ∙ length-take-le (until_dot text) text (dot_fits text)

-- by their first bytes
same_dot : (x : ℕ) (text : List ℕ) (y : ℕ) (name : List ℕ) → eqb x 0x2E ≡ true → same_text (first_name (x ∷ text)) (y ∷ name) ≡ false
unfolding same_text
same_dot x text y name e = rw (dot x text e)

same_more : (x : ℕ) (text : List ℕ) (y : ℕ) (name : List ℕ) → eqb x 0x2E ≡ false → x ≡ y → same_text (first_name (x ∷ text)) (y ∷ name) ≡ same_text (first_name text) name
unfolding same_text
same_more x text y name e s = rw (no_dot x text e, same_text, eq-eqb x y s)

same_other : (x : ℕ) (text : List ℕ) (y : ℕ) (name : List ℕ) → (x ≡ y → ⊥) → same_text (first_name (x ∷ text)) (y ∷ name) ≡ false
same_other x text y name s = go (eqb x 0x2E) refl
  where
    go : (b : Bool) → eqb x 0x2E ≡ b → same_text (first_name (x ∷ text)) (y ∷ name) ≡ false
    go true e = same_dot x text y name e
    go false e = unfold same_text in rw (no_dot x text e, same_text, ne_eqb x y s)

module _ (text name : List ℕ) (i : ℕ) where
  abbrev pub alike : Bool
  alike = same_text (first_name (drop i text)) (drop i name)

  module _ (h : i < length text) (k : i < length name) where
    pub alike_other : (get_or text i 0 ≡ get_or name i 0 → ⊥) → alike ≡ false
    alike_other e = rw (drop-cons text i 0 h, drop-cons name i 0 k) (same_other _ _ _ _ e)

    pub alike_dot : get_or text i 0 ≡ 0x2E → alike ≡ false
    alike_dot e = rw (drop-cons text i 0 h, drop-cons name i 0 k) (same_dot _ _ _ _ (eq-eqb _ _ e))

    pub alike_no_more : (get_or text i 0 ≡ get_or name i 0 → get_or text i 0 ≡ 0x2E) → alike ≡ false
    alike_no_more e = go (eqb (get_or text i 0) (get_or name i 0)) refl
      where
        go : (b : Bool) → eqb (get_or text i 0) (get_or name i 0) ≡ b → alike ≡ false
        go true s = alike_dot (e (eqb-true _ _ s))
        go false s = alike_other (λ same. absurd (omega (arith, eqb-false _ _ s)))

    pub alike_more : get_or text i 0 ≡ get_or name i 0 → (get_or text i 0 ≡ 0x2E → ⊥) → alike ≡ same_text (first_name (drop (i + 1) text)) (drop (i + 1) name)
    alike_more e d = rw (add-one, drop-cons text i 0 h, drop-cons name i 0 k) (same_more _ _ _ _ (ne_eqb _ _ d) e)

  -- at the name's end
  module _ (k : length name ≤ i) where
    pub alike_end : length text ≤ i → alike ≡ true
    unfolding same_text until_dot
    alike_end h = rw (drop_of_length-le text h, drop_of_length-le name k)

    pub alike_all : i < length text → alike ≡ eqb (get_or text i 0) 0x2E
    alike_all h = rw (drop-cons text i 0 h, drop_of_length-le name k) (go (eqb (get_or text i 0) 0x2E) refl)
      where
        go : (b : Bool) → eqb (get_or text i 0) 0x2E ≡ b → same_text (first_name (get_or text i 0 ∷ drop (suc i) text)) [] ≡ b
        go true e = unfold same_text in rw (dot (get_or text i 0) (drop (suc i) text) e)
        go false e = unfold same_text in rw (no_dot (get_or text i 0) (drop (suc i) text) e)
