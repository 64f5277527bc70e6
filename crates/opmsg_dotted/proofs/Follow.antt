-- Laws of dotted texts: turns that change nothing, and one element after the other.
-- Assumes nothing.
use Prim.Native.Nat.{ℕ, zero, suc, ◌+◌, ◌-◌, ◌≤◌, ◌<◌}
use mathlib.Core.Bool.{Bool, true, false, ◌&&◌, ◌||◌, or-true}
use mathlib.Core.Path.{◌≡◌, refl, sym, ◌∙◌, ap}
use mathlib.Core.List.{List, [], ◌∷◌}
use native.Mathlib.Numerals.{sub-one}
use native.Mathlib.Omega.{arith}
use lib.ListN.{length, get_or, drop, length-drop, drop_of_length-le}
use lib.Seq.{take_all, drop-cons, drop-drop}
use lib.Dec.{ltb, eqb}
use borrow.Author.Tests.{ltb-true, ltb-false, lt-ltb, le-ltb, eq-eqb, ne_eqb}
use Rattle.bson_elements.specs.Element.{element_size}
use Rattle.opmsg.specs.Names.{same_text, among, name_text, names_of, element_names, texts}
use Rattle.opmsg.specs.Dotted.{until_dot, elements_within, some_within, follow, found}
use Rattle.opmsg.specs.Inner.{Filled, none, more, Flat}
use Rattle.opmsg_element_names.specs.Inner.{Read, text_at}
use Rattle.opmsg_element_names.proofs.Texts.{neither, among_cons}
use Rattle.opmsg_element_names.proofs.Names.{filled_next, filled_within, names_next, names_of_lem}
use Rattle.opmsg_dotted.proofs.FirstName.{first_name, dot_fits, first_length}

-- ---- one of the elements

module _ (name : List ℕ) (test : List ℕ → Bool) where
  -- the first element, or one of the others
  abbrev here : List ℕ → Bool
  here xs = same_text name (name_text xs) && eqb (get_or xs 0 0) 0x03 && test (elements_within xs)

  some_none : (turns : ℕ) → some_within turns name test [] ≡ false
  unfolding some_within
  some_none zero = refl
  some_none (suc turns) = refl

  some_step : (turns : ℕ) (xs : List ℕ) → 0 < turns → 0 < length xs → some_within turns name test xs ≡ (here xs || some_within (turns - 1) name test (drop (element_size xs) xs))
  unfolding some_within
  some_step zero xs t l = absurd (omega arith)
  some_step (suc turns) xs t l = rw (sub-one (suc turns), some_within, ne_eqb (length xs) 0 (λ e. omega arith))

  -- more turns than bytes change nothing
  some_turns : (m n : ℕ) (xs : List ℕ) → Filled xs → length xs ≤ m → length xs ≤ n → some_within m name test xs ≡ some_within n name test xs
  some_turns zero n [] f k l = some_none zero ∙ sym (some_none n)
  some_turns zero n (x ∷ xs) f k l = absurd (omega arith)
  some_turns (suc m) n [] f k l = some_none (suc m) ∙ sym (some_none n)
  some_turns (suc m) n (x ∷ xs) f k l =
      let p = filled_next f (omega arith) in
      let short : length (drop (element_size (x ∷ xs)) (x ∷ xs)) ≤ length xs = rw length-drop (omega arith) in
      some_step (suc m) (x ∷ xs) (omega arith) (omega arith)
      ∙ rw (sub-one (suc m)) (ap (λ (b : Bool). here (x ∷ xs) || b) (some_turns m (n - 1) _ p.2 (omega arith) (omega arith)))
      ∙ sym (some_step n (x ∷ xs) (omega arith) (omega arith))

  some_next : (xs : List ℕ) → Filled xs → 0 < length xs
      → some_within (length xs) name test xs ≡ (here xs || some_within (length (drop (element_size xs) xs)) name test (drop (element_size xs) xs))
  some_next xs f l =
      let p = filled_next f l in
      some_step (length xs) xs l l
      ∙ ap (λ (b : Bool). here xs || b) (some_turns (length xs - 1) _ _ p.2 (omega (arith, p.0, length-drop (element_size xs) xs)) (omega arith))

-- tests that answer the same
some_same : (turns : ℕ) (name : List ℕ) (a b : List ℕ → Bool) (xs : List ℕ) → ((ys : List ℕ) → a ys ≡ b ys) → some_within turns name a xs ≡ some_within turns name b xs
some_same zero name a b xs e = unfold some_within in refl
some_same (suc turns) name a b [] e = some_none name a (suc turns) ∙ sym (some_none name b (suc turns))
some_same (suc turns) name a b (x ∷ xs) e =
    let rest = drop (element_size (x ∷ xs)) (x ∷ xs) in
    some_step name a (suc turns) (x ∷ xs) (omega arith) (omega arith)
    ∙ rw (some_step name b (suc turns) (x ∷ xs) (omega arith) (omega arith), sub-one (suc turns), e (elements_within (x ∷ xs)), some_same turns name a b rest e)

-- ---- a text

-- what stands behind a text's first dot
abbrev pub rest : List ℕ → List ℕ
rest text = drop (until_dot text + 1) text

module _ (turns : ℕ) (text xs : List ℕ) where
  follow_dotted : until_dot text < length text → follow (suc turns) text xs ≡ some_within (length xs) (first_name text) (λ ys. follow turns (rest text) ys) xs
  unfolding follow
  follow_dotted h = rw (follow, lt-ltb _ _ h)

  follow_plain : length text ≤ until_dot text → follow (suc turns) text xs ≡ among (names_of xs) text
  unfolding follow
  follow_plain h = rw (follow, le-ltb _ _ h)

-- turns above the text's length change nothing
follow_turns : (m n : ℕ) (text xs : List ℕ) → length text < m → length text < n → follow m text xs ≡ follow n text xs
follow_turns zero n text xs k l = absurd (omega arith)
follow_turns (suc m) zero text xs k l = absurd (omega arith)
follow_turns (suc m) (suc n) text xs k l = go (ltb (until_dot text) (length text)) refl (follow_turns m n (rest text))
  where
    go : (b : Bool) → ltb (until_dot text) (length text) ≡ b → ((ys : List ℕ) → length (rest text) < m → length (rest text) < n → follow m (rest text) ys ≡ follow n (rest text) ys)
        → follow (suc m) text xs ≡ follow (suc n) text xs
    go true e ih =
        let h = ltb-true _ _ e in
        let short = length-drop (until_dot text + 1) text in
        follow_dotted m text xs h ∙ some_same (length xs) (first_name text) _ _ xs (λ ys. ih ys (omega arith) (omega arith)) ∙ sym (follow_dotted n text xs h)
    go false e ih = let h = ltb-false _ _ e in follow_plain m text xs h ∙ sym (follow_plain n text xs h)

module _ (text xs : List ℕ) where
  pub found_dotted : until_dot text < length text → found xs text ≡ some_within (length xs) (first_name text) (λ ys. found ys (rest text)) xs
  unfolding found
  found_dotted h =
      follow_dotted (length text) text xs h
      ∙ some_same (length xs) (first_name text) _ _ xs (λ ys. follow_turns (length text) _ (rest text) ys (omega (arith, length-drop (until_dot text + 1) text)) (omega arith))

  pub found_plain : length text ≤ until_dot text → found xs text ≡ among (names_of xs) text
  unfolding found
  found_plain h = follow_plain (length text) text xs h

-- ---- a text and the elements, one after the other

pub names_first : (xs : List ℕ) → Filled xs → 0 < length xs → names_of xs ≡ name_text xs ∷ names_of (drop (element_size xs) xs)
unfolding names_of texts
names_first xs f l =
    let p = filled_next f l in
    let rest = drop (element_size xs) xs in
    ap texts (names_next (length xs) 0 xs l l) ∙ ap (λ (ts : List (List ℕ)). name_text xs ∷ ts) (names_of_lem (length xs - 1) _ rest p.2 (omega (arith, p.0, length-drop (element_size xs) xs)))

pub found_none : (text : List ℕ) → found [] text ≡ false
found_none text = go (ltb (until_dot text) (length text)) refl
  where
    go : (b : Bool) → ltb (until_dot text) (length text) ≡ b → found [] text ≡ false
    go true e = found_dotted text [] (ltb-true _ _ e) ∙ some_none _ _ 0
    go false e = found_plain text [] (ltb-false _ _ e) ∙ unfold names_of element_names texts among in refl

module _ (text xs : List ℕ) (f : Filled xs) (l : 0 < length xs) where
  abbrev others : Bool
  others = found (drop (element_size xs) xs) text

  -- of a text with a dot
  dotted_next : until_dot text < length text
      → found xs text ≡ (same_text (first_name text) (name_text xs) && eqb (get_or xs 0 0) 0x03 && found (elements_within xs) (rest text) || others)
  dotted_next h =
      found_dotted text xs h
      ∙ some_next (first_name text) (λ ys. found ys (rest text)) xs f l
      ∙ ap (λ (b : Bool). here (first_name text) (λ ys. found ys (rest text)) xs || b) (sym (found_dotted text (drop (element_size xs) xs) h))

  -- and of one without
  plain_next : length text ≤ until_dot text → found xs text ≡ (same_text text (name_text xs) || others)
  plain_next h =
      found_plain text xs h
      ∙ ap (λ (ts : List (List ℕ)). among ts text) (names_first xs f l)
      ∙ among_cons (name_text xs) _ text
      ∙ ap (λ (b : Bool). same_text text (name_text xs) || b) (sym (found_plain text (drop (element_size xs) xs) h))

  -- it is found among the others
  pub found_later : others ≡ true → found xs text ≡ true
  found_later t = go (ltb (until_dot text) (length text)) refl
    where
      go : (b : Bool) → ltb (until_dot text) (length text) ≡ b → found xs text ≡ true
      go true e = dotted_next (ltb-true _ _ e) ∙ rw t (or-true (here (first_name text) (λ ys. found ys (rest text)) xs))
      go false e = plain_next (ltb-false _ _ e) ∙ rw t (or-true (same_text text (name_text xs)))

  -- the first element has another name
  pub found_other : same_text (first_name text) (name_text xs) ≡ false → found xs text ≡ others
  found_other s = go (ltb (until_dot text) (length text)) refl
    where
      go : (b : Bool) → ltb (until_dot text) (length text) ≡ b → found xs text ≡ others
      go true e = dotted_next (ltb-true _ _ e) ∙ rw s
      go false e =
          let h = ltb-false _ _ e in
          plain_next h ∙ rw (rw (take_all (until_dot text) text h) at s)

  module _ (s : same_text (first_name text) (name_text xs) ≡ true) where
    -- it has the last name
    pub found_last : length text ≤ until_dot text → found xs text ≡ true
    found_last h = plain_next h ∙ rw (rw (take_all (until_dot text) text h) at s)

    module _ (h : until_dot text < length text) where
      -- it has the name before the dot, and is no document
      pub found_no_document : (get_or xs 0 0 ≡ 0x03 → ⊥) → found xs text ≡ others
      found_no_document t = dotted_next h ∙ rw (s, ne_eqb _ _ t)

      -- or one in which the rest is found, or is not
      pub found_within : get_or xs 0 0 ≡ 0x03 → found (elements_within xs) (rest text) ≡ true → found xs text ≡ true
      found_within t e = dotted_next h ∙ rw (s, eq-eqb _ _ t, e)

      pub found_not_within : get_or xs 0 0 ≡ 0x03 → found (elements_within xs) (rest text) ≡ false → found xs text ≡ others
      found_not_within t e = dotted_next h ∙ rw (s, eq-eqb _ _ t, e)

-- a text with a dot, and an element that is no document
pub found_passing : (text xs : List ℕ) → Filled xs → 0 < length xs → (get_or xs 0 0 ≡ 0x03 → ⊥) → until_dot text < length text → found xs text ≡ found (drop (element_size xs) xs) text
found_passing text xs f l t h = go (same_text (first_name text) (name_text xs)) refl
  where
    go : (b : Bool) → same_text (first_name text) (name_text xs) ≡ b → found xs text ≡ found (drop (element_size xs) xs) text
    go true s = found_no_document text xs f l s h t
    go false s = found_other text xs f l s

-- a text that is no name is not found where no text with a dot is
pub found_flat : (text xs : List ℕ) → Flat xs → among (names_of xs) text ≡ false → found xs text ≡ false
found_flat text xs None-found e = go (ltb (until_dot text) (length text)) refl
  where
    go : (b : Bool) → ltb (until_dot text) (length text) ≡ b → found xs text ≡ false
    go true h = None-found text (ltb-true _ _ h)
    go false h = found_plain text xs (ltb-false _ _ h) ∙ e

-- no element has the name before the dot
pub found_nowhere : (text xs : List ℕ) → Filled xs → until_dot text < length text → among (names_of xs) (first_name text) ≡ false → found xs text ≡ false
found_nowhere text xs none h e = found_none text
found_nowhere text xs (more a b w f) h e =
    let whole = more a b w f in
    let first : (same_text (first_name text) (name_text xs) || among (names_of (drop (element_size xs) xs)) (first_name text)) ≡ false =
    sym (among_cons _ _ _) ∙ rw (names_first xs whole (omega arith)) at e in
    let p = neither _ _ first in
    found_other text xs whole (omega arith) p.0 ∙ found_nowhere text (drop (element_size xs) xs) f h p.1

-- ---- in code: a text is found if it is found from byte i on

abbrev pub Sought : List ℕ → List ℕ → ℕ → Type 0
Sought xs text i = (i ≤ length xs) × Filled (drop i xs) × (found xs text ≡ found (drop i xs) text)

pub sought_none : (xs text : List ℕ) → Filled xs → Sought xs text 0
sought_none xs text f = (omega arith, f, refl)

module _ (xs text : List ℕ) (i : ℕ) (s : Sought xs text i) where
  pub sought_end : length xs ≤ i → found xs text ≡ false
  sought_end h = s.2 ∙ rw (drop_of_length-le xs h) (found_none text)

  module _ (l : i < length xs) where
    some : 0 < length (drop i xs)
    some = rw length-drop (omega arith)

    type_at : get_or (drop i xs) 0 0 ≡ get_or xs i 0
    type_at = rw (drop-cons xs i 0 l)

    -- the element at i was read, and what is in it if it is a document
    pub sought_read : Read xs i
    sought_read = let p = filled_next s.1 some in (p.0, p.1)

    pub sought_filled : get_or xs i 0 ≡ 0x03 → Filled (elements_within (drop i xs))
    sought_filled t = filled_within s.1 some (type_at ∙ t)

    -- the text is not found there
    module _ (end : ℕ) (e : end ≡ i + element_size (drop i xs)) where
      on : found (drop i xs) text ≡ found (drop (element_size (drop i xs)) (drop i xs)) text → Sought xs text end
      on h =
          let p = filled_next s.1 some in
          let rest : drop (element_size (drop i xs)) (drop i xs) ≡ drop end xs = rw (drop-drop, e) in
          (omega (arith, p.1, length-drop i xs), rw rest at p.2, s.2 ∙ h ∙ ap (λ (ys : List ℕ). found ys text) rest)

      pub sought_other : (name : List ℕ) → name ≡ text_at xs i → same_text (first_name text) name ≡ false → Sought xs text end
      sought_other name is other = on (found_other text (drop i xs) s.1 some (rw is at other))

    -- the element has the text's first name
    module _ (name : List ℕ) (is : name ≡ text_at xs i) (led : same_text (first_name text) name ≡ true) where
      same : same_text (first_name text) (name_text (drop i xs)) ≡ true
      same = rw is at led

      before : length name ≡ until_dot text
      before = first_length text name led

      pub sought_fits : (length name ≡ length text → ⊥) → length name < length text
      sought_fits d = omega (arith, before, dot_fits text)

      pub sought_last : length name ≡ length text → found xs text ≡ true
      sought_last h = s.2 ∙ found_last text (drop i xs) s.1 some same (omega (arith, before))

      module _ (h : length name < length text) where
        inner : drop (length name + 1) text ≡ rest text
        inner = rw before

        shorter : until_dot text < length text
        shorter = omega (arith, before)

        pub sought_within : get_or xs i 0 ≡ 0x03 → found (elements_within (drop i xs)) (drop (length name + 1) text) ≡ true → found xs text ≡ true
        sought_within t e = s.2 ∙ found_within text (drop i xs) s.1 some same shorter (type_at ∙ t) (rw inner at e)

        module _ (end : ℕ) (e : end ≡ i + element_size (drop i xs)) where
          pub sought_no_document : (get_or xs i 0 ≡ 0x03 → ⊥) → Sought xs text end
          sought_no_document t = on end e (found_no_document text (drop i xs) s.1 some same shorter (λ z. t (sym type_at ∙ z)))

          pub sought_not_within : get_or xs i 0 ≡ 0x03 → found (elements_within (drop i xs)) (drop (length name + 1) text) ≡ false → Sought xs text end
          sought_not_within t n = on end e (found_not_within text (drop i xs) s.1 some same shorter (type_at ∙ t) (rw inner at n))
