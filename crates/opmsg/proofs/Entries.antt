-- A list of entries, one by one, as code goes through it.
-- Assumes nothing.
use Prim.Native.Nat.{ℕ, ◌+◌, ◌<◌, ◌≤◌}
use mathlib.Core.Path.{◌≡◌, refl, sym, ap, ◌∙◌}
use mathlib.Core.List.{List, [], ◌∷◌, ◌++◌, map, map-append}
use native.Mathlib.Numerals.{add-one}
use lib.ListN.{length, get_or, take, drop, drop_of_length-le, take-append-drop, length-map}
use lib.Seq.{drop-cons, take-suc, take-take, length-take-le}
use Rattle.opmsg.specs.Sections.{sequences_of}
use Rattle.opmsg.specs.View.{padded}
use Rattle.opmsg.specs.Inner.{first_sections}
use Rattle.opmsg.specs.declared.Section.{Section}
use Rattle.opmsg.specs.declared.Section.TheVariants.{None, Body, Sequence}
use Rattle.opmsg.specs.declared.Entry.{Entry}
use Rattle.opmsg.specs.declared.Range.{Range}

-- what an array of entries reads as past its end, and what entry i says
abbrev pub no_entry : Entry
no_entry = record { section = None }

abbrev pub said_at : List Entry → ℕ → Section
said_at entries i = (get_or entries i no_entry).section

-- what the entries from i on say
abbrev pub said_from : List Entry → ℕ → List Section
said_from entries i = map (λ x. x.section) (drop i entries)

pub said_next : (entries : List Entry) (i : ℕ) → i < length entries → said_from entries i ≡ said_at entries i ∷ said_from entries (i + 1)
said_next entries i h = rw (add-one i, drop-cons entries i no_entry h)

pub said_end : (entries : List Entry) (i : ℕ) → length entries ≤ i → said_from entries i ≡ []
said_end entries i h = rw (drop_of_length-le entries {i = i} h)

-- the first i entries, and those behind them
pub first_split : (entries : List Entry) (i n : ℕ) → i ≤ n → first_sections n entries ≡ first_sections i entries ++ map (λ x. x.section) (drop i (take n entries))
first_split entries i n h =
    let says : Entry → Section = λ (x : Entry). x.section in
    let rest = drop i (take n entries) in
    ap (map says) (sym (take-append-drop i (take n entries))) ∙ map-append says (take i (take n entries)) rest
    ∙ ap (λ (l : List Entry). map says l ++ map says rest) (take-take i n entries h)

pub first_next : (entries : List Entry) (i : ℕ) → i < length entries → first_sections (i + 1) entries ≡ first_sections i entries ++ (said_at entries i ∷ [])
first_next entries i h =
    let says : Entry → Section = λ (x : Entry). x.section in
    rw (add-one i, take-suc entries i no_entry h) (map-append says (take i entries) (get_or entries i no_entry ∷ []))

pub first_length : (entries : List Entry) (i : ℕ) → i ≤ length entries → length (first_sections i entries) ≡ i
first_length entries i h = length-map (take i entries) _ ∙ length-take-le i entries h

-- where entries are those of sections, the first of them say these
pub first_padded : (qs : List Section) (n : ℕ) → length qs ≡ n → first_sections n (padded qs) ≡ qs
unfolding padded
first_padded qs n h = rw (← h) (go qs _)
  where
    go : (qs rs : List Section) → first_sections (length qs) (map (λ q. record { section = q }) (qs ++ rs)) ≡ qs
    go [] rs = refl
    go (q ∷ qs) rs = ap (λ (l : List Section). q ∷ l) (go qs rs)

-- a section that is no sequence, as a match of the code tells it
abbrev pub NoSequence : Section → Type 0
NoSequence q = (identifier documents : Range) (number : ℕ) → q ≡ Sequence identifier documents number → ⊥

pub no_sequence : (q : Section) (qs : List Section) → NoSequence q → sequences_of (q ∷ qs) ≡ sequences_of qs
unfolding sequences_of
no_sequence None qs h = refl
no_sequence (Body range) qs h = refl
no_sequence (Sequence identifier documents number) qs h = absurd (h identifier documents number refl)
