-- A text is found exactly where it leads to a name.
-- Assumes nothing.
use Prim.Native.Nat.{ℕ, zero, suc, ◌+◌, ◌<◌}
use mathlib.Core.Bool.{Bool, true, false}
use mathlib.Core.Path.{◌≡◌, refl, sym, ◌∙◌, ap, subst}
use mathlib.Core.List.{List, ◌∷◌, ◌++◌}
use native.Mathlib.Numerals.{add-one}
use native.Mathlib.Omega.{arith}
use lib.ListN.{length, get_or, drop, length-drop, length-append, take-append-drop}
use lib.Seq.{drop-cons, take_all, take-length, take_at, drop-append-add, length-take-le, get_or-take}
use lib.Dec.{ltb, eqb}
use borrow.Author.Tests.{ltb-true, ltb-false, eqb-true, eqb-false}
use Rattle.bson_elements.specs.Element.{element_size}
use Rattle.bson.specs.Document.{max_levels}
use Rattle.opmsg.specs.Names.{same_text, name_text}
use Rattle.opmsg.specs.Dotted.{until_dot, elements_within, found}
use Rattle.opmsg.specs.Inner.{Filled, none, more}
use Rattle.opmsg_documents.proofs.Fill.{document_filled}
use Rattle.opmsg_element_names.proofs.Texts.{not_both, same_self, same_text_lem}
use Rattle.opmsg_element_names.proofs.Names.{filled_next, filled_within}
use Rattle.opmsg_dotted.specs.Paths.{ElementOf, first, later, WithoutDot, Leads, there, within, FoundLeads}
use Rattle.opmsg_dotted.proofs.FirstName.{first_name, dot, dot_there, dots_before, dot_fits, plain_dots, no_dots}
use Rattle.opmsg_dotted.proofs.Follow.{rest, found_none, found_later, found_other, found_last, found_no_document, found_within, found_not_within}

-- ---- names and dots

firsts : (text : List ℕ) → WithoutDot (first_name text)
firsts text i h e =
    let fits = dot_fits text in
    let size = length-take-le (until_dot text) text fits in
    omega (arith, dots_before text i (omega (arith, size)) (sym (get_or-take (until_dot text) text i 0 (omega (arith, size))) ∙ e), size)

parted : (text : List ℕ) → until_dot text < length text → first_name text ++ (0x2E ∷ rest text) ≡ text
parted text h =
    let at : drop (until_dot text) text ≡ 0x2E ∷ rest text = drop-cons text (until_dot text) 0 h ∙ rw (dot_there text h, add-one (until_dot text)) in
    ap (λ (l : List ℕ). first_name text ++ l) (sym at) ∙ take-append-drop (until_dot text) text

-- ---- what is found leads to a name

pub on : (xs text : List ℕ) → 0 < length xs → Leads (drop (element_size xs) xs) text → Leads xs text
on xs text l (there e w) = there (later l e) w
on xs text l (within e w t inner) = within (later l e) w t inner

abbrev Sound : List ℕ → Type 0
Sound text = (xs : List ℕ) → Filled xs → found xs text ≡ true → Leads xs text

module _ (text : List ℕ) (deeper : until_dot text < length text → Sound (rest text)) where
  by_element : Sound text
  by_element xs none e = not_both (found_none text) e
  by_element xs (more a b w f) e = go (same_text (first_name text) (name_text xs)) refl (λ o. on xs text some (by_element (drop (element_size xs) xs) f o))
    where
      whole : Filled xs
      whole = more a b w f

      some : 0 < length xs
      some = omega arith

      go : (s : Bool) → same_text (first_name text) (name_text xs) ≡ s → (found (drop (element_size xs) xs) text ≡ true → Leads xs text) → Leads xs text
      go false s others = others (sym (found_other text xs whole some s) ∙ e)
      go true s others = named (ltb (until_dot text) (length text)) refl
        where
          same : first_name text ≡ name_text xs
          same = same_text_lem _ _ s

          inside : until_dot text < length text → (b : Bool) → eqb (get_or xs 0 0) 0x03 ≡ b → Leads xs text
          inside h false t = others (sym (found_no_document text xs whole some s h (eqb-false _ _ t)) ∙ e)
          inside h true t = look (found (elements_within xs) (rest text)) refl
            where
              three : get_or xs 0 0 ≡ 0x03
              three = eqb-true _ _ t

              look : (b : Bool) → found (elements_within xs) (rest text) ≡ b → Leads xs text
              look false i = others (sym (found_not_within text xs whole some s h three i) ∙ e)
              look true i =
                  subst (Leads xs) (ap (λ (n : List ℕ). n ++ (0x2E ∷ rest text)) (sym same) ∙ parted text h)
                  (within (first some) (rw same at (firsts text)) three (deeper h (elements_within xs) (w three) i))

          named : (b : Bool) → ltb (until_dot text) (length text) ≡ b → Leads xs text
          named true h = inside (ltb-true _ _ h) (eqb (get_or xs 0 0) 0x03) refl
          named false h =
              subst (Leads xs) (sym same ∙ take_all (until_dot text) text (ltb-false _ _ h)) (there (first some) (rw same at (firsts text)))

pub sound : (n : ℕ) (text : List ℕ) → length text < n → Sound text
sound zero text l = absurd (omega arith)
sound (suc n) text l = by_element text (λ h. sound n (rest text) (omega (arith, length-drop (until_dot text + 1) text)))

-- ---- what leads to a name is found

reach : {xs ys : List ℕ} (text : List ℕ) → ElementOf ys xs → Filled xs → (Filled ys → 0 < length ys → found ys text ≡ true) → found xs text ≡ true
reach text (first l) f h = h f l
reach {xs} text (later l e) f h = found_later text xs f l (reach text e (filled_next f l).2 h)

pub complete : {xs text : List ℕ} → Leads xs text → Filled xs → found xs text ≡ true
complete (there {xs} {ys} e w) f =
    let name = name_text ys in
    let dots = no_dots name w in
    reach name e f (λ g l. found_last name ys g l (rw (dots, take-length name) (same_self name)) (omega (arith, dots)))
complete (within {xs} {ys} {tail} e w t inner) f =
    let name = name_text ys in
    let text = name ++ (0x2E ∷ tail) in
    let dots : until_dot text ≡ length name = omega (arith, plain_dots name (0x2E ∷ tail) w, dot 0x2E tail refl) in
    let before : first_name text ≡ name = rw dots (take_at name (0x2E ∷ tail) (length name) refl) in
    let behind : rest text ≡ tail = rw dots (drop-append-add name (0x2E ∷ tail) 1) in
    reach text e f (λ g l.
    found_within text ys g l (rw before (same_self name)) (omega (arith, dots, length-append name (0x2E ∷ tail))) t (rw behind (complete inner (filled_within g l t))))

pub found_leads : FoundLeads
found_leads = record {
  sound = λ at s count r h text e. sound (suc (length text)) text (omega arith) _ (document_filled max_levels at s count r h) e;
  complete = λ at s count r h text l. complete l (document_filled max_levels at s count r h);
}
