-- What the functions' answers stand for in document 01's terms, and what they are given.
-- Assumes nothing: these are definitions.
use Rattle.std.specs.Prelude.{ℕ, ◌+◌, ◌-◌, ◌≤◌, List, ◌≡◌, Result, Ok, Err}
use lib.ListN.{take, drop}
use Rattle.wire.specs.Outcome.{Outcome, refused}
use Rattle.wire.specs.Walk.{Step}
use Rattle.refusal.specs.declared.Refusal.{Refusal}
use Rattle.refusal.specs.Told.{told}
use Rattle.utf8_text.specs.declared.TextError.{TextError}
use Rattle.opmsg.specs.Sections.{body_at, body_of, sequences_of, Parts, behind}
use Rattle.opmsg.specs.Inner.{Filled}
use Rattle.opmsg.specs.declared.Section.TheVariants.{Sequence}
use Rattle.opmsg_sequences.specs.declared.Part.{Part}

-- a section at a place, behind those passed
abbrev pub part_of : ℕ → Parts → Result Part Refusal → Outcome (Step Parts)
part_of at p (Ok (Part.Body size elements)) = behind p (1 + size) (body_at at size) elements
part_of at p (Ok (Part.Sequenced size elements number identifier documents)) = behind p size (Sequence identifier documents number) elements
part_of at p (Err r) = told (Err r)

-- it lies within xs, which begin with its kind byte, and elements fill a body
abbrev pub PartWithin : List ℕ → Result Part Refusal → Type 0
PartWithin xs (Ok (Part.Body size elements)) = (5 ≤ size) × (1 + size ≤ lib.ListN.length xs) × Filled (take (size - 5) (drop 5 xs))
PartWithin xs (Ok (Part.Sequenced size elements number identifier documents)) = (6 ≤ size) × (size ≤ lib.ListN.length xs)
PartWithin xs (Err r) = Unit {0}

-- why an identifier at a place is none; of one that is not UTF-8, how far its longest well-formed beginning goes, which is at most n bytes
abbrev pub unnamed : {A : Type 0} → (place : ℕ) → TextError → Outcome A
unnamed place TextError.Unended = refused 13 place
unnamed place (TextError.IllFormed n) = refused 27 (place + n)

abbrev pub NameWithin : (n : ℕ) → TextError → Type 0
NameWithin n TextError.Unended = Unit {0}
NameWithin n (TextError.IllFormed m) = m ≤ n

-- the numbers that a section's reader wants of those passed: a body's start, the number of sequences, the elements counted
pub record PassedNumbers (p : Parts) (start number elements : ℕ) : Type 0 where
  pub start_is : (body_of p.sections).start ≡ start
  pub number_is : lib.ListN.length (sequences_of p.sections) ≡ number
  pub elements_is : p.elements ≡ elements
