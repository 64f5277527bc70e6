-- Laws of identifiers: one after the other, by a list of entries.
-- Assumes nothing.
use Prim.Native.Nat.{ℕ, ◌+◌, ◌≤◌, ◌<◌}
use mathlib.Core.Bool.{Bool, true, false, ◌||◌}
use mathlib.Core.Path.{◌≡◌, refl, sym, ◌∙◌, ap}
use mathlib.Core.List.{List, [], ◌∷◌, ◌++◌, map, map-append}
use native.Mathlib.Omega.{arith}
use lib.ListN.{length, take, drop, length-append, take-append-drop}
use lib.Seq.{take_at, drop_at}
use Rattle.wire.specs.Outcome.{ok, refused}
use Rattle.opmsg.specs.Names.{Name, same_text, among, distinct, part, identifiers, texts}
use Rattle.opmsg.specs.Inner.{first_sections}
use Rattle.opmsg.specs.declared.Range.{Range}
use Rattle.opmsg.specs.declared.Section.{Section}
use Rattle.opmsg.specs.declared.Section.TheVariants.{None, Body, Sequence}
use Rattle.opmsg.specs.declared.Entry.{Entry}
use Rattle.opmsg.proofs.Entries.{said_at, said_from, said_next, said_end, first_next, NoSequence}
use Rattle.opmsg.proofs.Differ.{identifiers_append}
use Rattle.opmsg_body_names.specs.Inner.{slot_of, marked, marking}
use Rattle.opmsg_body_names.proofs.Texts.{among_cons, among_append}
use Rattle.opmsg_body_names.proofs.Distinct.{Met, met_unmarked, met_next, met_again, met_passing, met_all}

-- the identifiers among the first k entries; how many they are; and those from entry i on
abbrev pub first_identifiers : List ℕ → List Entry → ℕ → List Name
first_identifiers xs entries k = identifiers xs (first_sections k entries)

abbrev pub count : List ℕ → List Entry → ℕ → ℕ
count xs entries k = length (first_identifiers xs entries k)

abbrev pub left : List ℕ → List Entry → ℕ → List Name
left xs entries i = identifiers xs (said_from entries i)

-- the name that a range gives
abbrev named : List ℕ → Range → Name
named xs range = record { place = range.start; text = part xs range.start range.length }

module _ (xs : List ℕ) (entries : List Entry) (i : ℕ) where
  pub none_left : length entries ≤ i → left xs entries i ≡ []
  unfolding identifiers
  none_left h = ap (identifiers xs) (said_end entries i h)

  parted : left xs entries 0 ≡ first_identifiers xs entries i ++ left xs entries i
  parted =
      let says : Entry → Section = λ (x : Entry). x.section in
      ap (λ (l : List Entry). identifiers xs (map says l)) (sym (take-append-drop i entries))
      ∙ ap (identifiers xs) (map-append says (take i entries) (drop i entries)) ∙ identifiers_append xs (first_sections i entries) (said_from entries i)

  names_passed : take (count xs entries i) (left xs entries 0) ≡ first_identifiers xs entries i
  names_passed = ap (take (count xs entries i)) parted ∙ take_at (first_identifiers xs entries i) (left xs entries i) _ refl

  pub names_left : drop (count xs entries i) (left xs entries 0) ≡ left xs entries i
  names_left = ap (drop (count xs entries i)) parted ∙ drop_at (first_identifiers xs entries i) (left xs entries i) _ refl

  -- the next entry
  module _ (h : i < length entries) where
    pub left_sequence : {a b : Range} {n : ℕ} → said_at entries i ≡ Sequence a b n → left xs entries i ≡ named xs a ∷ left xs entries (i + 1)
    unfolding identifiers
    left_sequence e = ap (identifiers xs) (said_next entries i h) ∙ rw e

    pub left_other : NoSequence (said_at entries i) → left xs entries i ≡ left xs entries (i + 1)
    unfolding identifiers
    left_other t = ap (identifiers xs) (said_next entries i h) ∙ other (said_at entries i) (said_from entries (i + 1)) t
      where
        other : (q : Section) (qs : List Section) → NoSequence q → identifiers xs (q ∷ qs) ≡ identifiers xs qs
        other None qs t = refl
        other (Body range) qs t = refl
        other (Sequence a b n) qs t = absurd (t a b n refl)

    count_next : count xs entries (i + 1) ≡ count xs entries i + length (identifiers xs (said_at entries i ∷ []))
    count_next =
        ap (λ (qs : List Section). length (identifiers xs qs)) (first_next entries i h)
        ∙ ap length (identifiers_append xs (first_sections i entries) (said_at entries i ∷ []))
        ∙ length-append (first_identifiers xs entries i) (identifiers xs (said_at entries i ∷ []))

    pub count_sequence : {a b : Range} {n : ℕ} → said_at entries i ≡ Sequence a b n → count xs entries (i + 1) ≡ count xs entries i + 1
    unfolding identifiers
    count_sequence e = count_next ∙ rw e

    pub count_other : NoSequence (said_at entries i) → count xs entries (i + 1) ≡ count xs entries i
    unfolding identifiers
    count_other t = omega (arith, count_next, one (said_at entries i) t)
      where
        one : (q : Section) → NoSequence q → length (identifiers xs (q ∷ [])) ≡ 0
        one None t = refl
        one (Body range) t = refl
        one (Sequence a b n) t = absurd (t a b n refl)

    -- a text is compared with the next identifier, and then with the rest
    pub identified_next : {a b : Range} {n : ℕ} → said_at entries i ≡ Sequence a b n → (text : List ℕ)
        → among (texts (left xs entries i)) text ≡ (same_text text (part xs a.start a.length) || among (texts (left xs entries (i + 1))) text)
    unfolding texts
    identified_next e text = rw (left_sequence e) (among_cons _ _ _)

-- ---- in code: the identifiers among the first i entries pass no test, and differ from each other and from the texts of a base

module _ (xs : List ℕ) (test : List ℕ → Bool) (base : List (List ℕ)) (entries : List Entry) (i : ℕ) {marks : List ℕ}
    (m : Met 24 test base (left xs entries 0) (count xs entries i) marks) where
  pub differ_all : length entries ≤ i → distinct 24 test base (left xs entries 0) ≡ ok tt
  differ_all h = met_all 24 test base (left xs entries 0) _ m (names_left xs entries i ∙ none_left xs entries i h)

  module _ (h : i < length entries) where
    -- no identifier more
    pub differ_other : NoSequence (said_at entries i) → Met 24 test base (left xs entries 0) (count xs entries (i + 1)) marks
    differ_other t = rw (count_other xs entries i h t) m

    module _ {a b : Range} {n : ℕ} (e : said_at entries i ≡ Sequence a b n) (text : List ℕ) (is : text ≡ part xs a.start a.length) where
      before : among (base ++ texts (take (count xs entries i) (left xs entries 0))) text ≡ (among base text || among (texts (first_identifiers xs entries i)) text)
      before = rw (names_passed xs entries i) (among_append base _ text)

      follows : drop (count xs entries i) (left xs entries 0) ≡ named xs a ∷ left xs entries (i + 1)
      follows = names_left xs entries i ∙ left_sequence xs entries i h e

      -- the next one is there already
      pub differ_again : (among base text || among (texts (first_identifiers xs entries i)) text) ≡ true → distinct 24 test base (left xs entries 0) ≡ refused 24 a.start
      differ_again t = met_again 24 test base (left xs entries 0) _ m _ _ follows (rw is at (before ∙ t))

      -- it is not, if it has no mark
      pub differ_unmarked : marked marks (slot_of text) ≡ false → (among base text || among (texts (first_identifiers xs entries i)) text) ≡ false
      differ_unmarked t = sym before ∙ met_unmarked 24 test base (left xs entries 0) _ m text t

      -- the next one is new, and passes the test or not
      module _ (new : (among base text || among (texts (first_identifiers xs entries i)) text) ≡ false) where
        pub differ_passing : test text ≡ true → distinct 24 test base (left xs entries 0) ≡ refused 24 a.start
        differ_passing t = met_passing 24 test base (left xs entries 0) _ m _ _ follows (rw is at (before ∙ new)) (rw is at t)

        pub differ_new : test text ≡ false → Met 24 test base (left xs entries 0) (count xs entries (i + 1)) (marking marks (slot_of text))
        differ_new t = rw (is, count_sequence xs entries i h e) (met_next 24 test base (left xs entries 0) _ m _ _ follows (rw is at (before ∙ new)) (rw is at t))
