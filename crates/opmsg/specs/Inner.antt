-- What the answers of the readers' parts stand for in document 01's terms, and what is kept of sections.
-- Assumes nothing: these are definitions.
use Rattle.std.specs.Prelude.{ℕ, ◌<◌, ◌≤◌, Bool, false, ◌||◌, List, [], map, ◌++◌, ◌≡◌, Result}
use lib.ListN.{get_or, take, drop}
use Rattle.wire.specs.Outcome.{Outcome}
use Rattle.refusal.specs.declared.Refusal.{Refusal}
use Rattle.refusal.specs.Told.{told}
use Rattle.bson_elements.specs.Element.{element_size}
use Rattle.opmsg.specs.Sections.{body_of, sequences_of}
use Rattle.opmsg.specs.Names.{among, body_elements, body_names, identifiers, texts}
use Rattle.opmsg.specs.Dotted.{until_dot, elements_within, found}
use Rattle.opmsg.specs.View.{padded}
use Rattle.opmsg.specs.declared.Section.{Section}
use Rattle.opmsg.specs.declared.Entry.{Entry}

-- checks that are passed, or a refusal
abbrev pub judged : Result (Unit {0}) Refusal → Outcome (Unit {0})
judged = told

-- bytes that elements fill, one after the other, and so within each document of type 03
pub data Filled : List ℕ → Type 0 where
  none : Filled []
  more : {xs : List ℕ} → 0 < element_size xs → element_size xs ≤ lib.ListN.length xs → (get_or xs 0 0 ≡ 0x03 → Filled (elements_within xs))
      → Filled (drop (element_size xs) xs) → Filled xs

-- no text with a dot is found from the elements xs on
abbrev pub Flat : List ℕ → Type 0
Flat xs = (text : List ℕ) → until_dot text < lib.ListN.length text → found xs text ≡ false

-- a text is one of the body's names or of the identifiers, or leads to a name in the body
abbrev pub clashes : (xs : List ℕ) → List Section → (text : List ℕ) → Bool
clashes xs qs text = among (texts (body_names xs qs) ++ texts (identifiers xs qs)) text || found (body_elements xs qs) text

-- what the first n entries of a list say
abbrev pub first_sections : ℕ → List Entry → List Section
first_sections n entries = map (λ x. x.section) (take n entries)

-- what code keeps of sections: the body's start and length, the list of entries, how many of them are used, and how many are sequences
pub record Shows (qs : List Section) (start size : ℕ) (entries : List Entry) (used sequences : ℕ) : Type 0 where
  pub start_is : (body_of qs).start ≡ start
  pub size_is : (body_of qs).length ≡ size
  pub entries_is : padded qs ≡ entries
  pub used_is : lib.ListN.length qs ≡ used
  pub sequences_is : lib.ListN.length (sequences_of qs) ≡ sequences
