-- Checks 22 to 24 by the numbers that are kept of the sections.
-- Assumes nothing.
use Prim.Native.Nat.{ℕ, ◌+◌, ◌-◌, ◌≤◌}
use mathlib.Core.Bool.{false, ◌||◌}
use mathlib.Core.Path.{◌≡◌, refl, sym, ◌∙◌, ap}
use mathlib.Core.List.{List, [], ◌∷◌}
use native.Mathlib.Omega.{arith}
use lib.ListN.{length, take, length-take}
use lib.Seq.{take_at}
use lib.Dec.{eqb}
use borrow.Author.Tests.{eq-eqb, ne_eqb}
use Rattle.wire.specs.Outcome.{ok, refused}
use Rattle.wire.proofs.Outcome.{pass, stop, go_on, halt}
use Rattle.opmsg.specs.Sections.{body_of, sequences_of}
use Rattle.opmsg.specs.Names.{among, never, distinct, element_names, part, body_elements, body_names, identifiers, texts, names_of}
use Rattle.opmsg.specs.Dotted.{found}
use Rattle.opmsg.specs.Read.{distinct_names}
use Rattle.opmsg.specs.Inner.{clashes, first_sections, Shows, Filled}
use Rattle.opmsg.specs.declared.Section.{Section}
use Rattle.opmsg.specs.declared.Section.TheVariants.{None, Body, Sequence}
use Rattle.opmsg.specs.declared.Entry.{Entry}
use Rattle.opmsg.proofs.Shown.{nones, padded_shows}
use Rattle.opmsg_body_names.proofs.Texts.{among_append, map_take}
use Rattle.opmsg_body_names.proofs.Elements.{names_turns, names_of_lem}
use Rattle.opmsg_identifiers.proofs.Table.{first_identifiers}

no_identifiers : (xs : List ℕ) (qs : List Section) → length (sequences_of qs) ≡ 0 → identifiers xs qs ≡ []
unfolding sequences_of identifiers
no_identifiers xs [] z = refl
no_identifiers xs (None ∷ qs) z = no_identifiers xs qs z
no_identifiers xs (Body range ∷ qs) z = no_identifiers xs qs z
no_identifiers xs (Sequence i d n ∷ qs) z = absurd (omega (arith, z))

module _ {qs : List Section} {start size : ℕ} {entries : List Entry} {used sequences : ℕ} (s : Shows qs start size entries used sequences) (xs : List ℕ) where
  sections_shown : qs ≡ first_sections used entries
  sections_shown =
      let says : Entry → Section = λ (x : Entry). x.section in
      sym (take_at qs (nones (length qs)) used s.used_is) ∙ ap (take used) (sym (padded_shows qs)) ∙ rw s.entries_is (sym (map_take says used entries))

  identifiers_shown : identifiers xs qs ≡ first_identifiers xs entries used
  identifiers_shown = ap (identifiers xs) sections_shown

  -- where there is no sequence there is no identifier
  pub without_sequences : sequences ≡ 0 → first_identifiers xs entries used ≡ []
  without_sequences z = sym identifiers_shown ∙ no_identifiers xs qs (s.sequences_is ∙ z)

  module _ (filled : Filled (part xs (start + 4) (size - 5))) where
    short : length (part xs (start + 4) (size - 5)) ≤ size
    unfolding part
    short = rw length-take (omega arith)

    names_shown : body_names xs qs ≡ element_names (length (part xs (start + 4) (size - 5))) (start + 4) (part xs (start + 4) (size - 5))
    unfolding body_names
    names_shown = rw (body_names, s.start_is, s.size_is) (names_turns _ _ _ _ filled short (omega arith))

    texts_shown : texts (body_names xs qs) ≡ names_of (part xs (start + 4) (size - 5))
    texts_shown = ap texts names_shown ∙ names_of_lem _ _ _ filled (omega arith)

    elements_shown : body_elements xs qs ≡ part xs (start + 4) (size - 5)
    elements_shown = rw (s.start_is, s.size_is)

    pub taken_shown : (text : List ℕ) → clashes xs qs text
        ≡ (among (names_of (part xs (start + 4) (size - 5))) text || among (texts (first_identifiers xs entries used)) text || found (part xs (start + 4) (size - 5)) text)
    taken_shown text = rw (among_append (texts (body_names xs qs)) (texts (identifiers xs qs)) text, texts_shown, identifiers_shown, elements_shown)

    module _ (end : ℕ) where
      pub absent : start ≡ 0 → distinct_names end xs qs ≡ refused 22 end
      unfolding distinct_names
      absent e = stop 22 end _ (eq-eqb _ _ (s.start_is ∙ e))

      module _ (some : start ≡ 0 → ⊥) where
        there : eqb (body_of qs).start 0 ≡ false
        there = ne_eqb _ _ (λ e. some (sym s.start_is ∙ e))

        pub repeated : {number place : ℕ}
            → distinct 23 never [] (element_names (length (part xs (start + 4) (size - 5))) (start + 4) (part xs (start + 4) (size - 5))) ≡ refused number place
            → distinct_names end xs qs ≡ refused number place
        unfolding distinct_names
        repeated e = pass 22 end _ there ∙ halt _ (ap (distinct 23 never []) names_shown ∙ e)

        pub different : distinct 23 never [] (element_names (length (part xs (start + 4) (size - 5))) (start + 4) (part xs (start + 4) (size - 5))) ≡ ok tt
            → distinct_names end xs qs ≡ distinct 24 (found (part xs (start + 4) (size - 5))) (names_of (part xs (start + 4) (size - 5))) (first_identifiers xs entries used)
        unfolding distinct_names
        different e = pass 22 end _ there ∙ go_on _ (ap (distinct 23 never []) names_shown ∙ e) ∙ rw (texts_shown, identifiers_shown, elements_shown)
