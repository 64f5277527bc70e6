-- What the answer stands for in document 01's terms.
-- Assumes nothing: these are definitions.
use Rattle.std.specs.Prelude.{ℕ, ◌+◌, ◌-◌, ◌≤◌, List, ◌≡◌, Result, Ok, Err}
use Rattle.wire.specs.Outcome.{ok}
use Rattle.wire.specs.Walk.{walk}
use Rattle.refusal.specs.declared.Refusal.{Refusal}
use Rattle.refusal.specs.Told.{told}
use Rattle.opmsg.specs.Sections.{max_sections, Parts, nothing, section_at}
use Rattle.opmsg.specs.Names.{part}
use Rattle.opmsg.specs.declared.Edition.{Edition}
use Rattle.opmsg.specs.declared.Content.{Content}
use Rattle.opmsg.specs.declared.Entry.{Entry}
use Rattle.opmsg.specs.Inner.{Shows, Filled}

-- all sections of xs, which start at 20: the definition's parts are those that code keeps; elements fill the body
pub record Gathered (e : Edition) (xs : List ℕ) (c : Content) (entries : List Entry) : Type 0 where
  pub parts : Parts
  pub read : walk (section_at e) (lib.ListN.length xs) 20 xs nothing ≡ ok parts
  pub shows : Shows parts.sections c.body c.body_length entries c.used c.sequences
  pub elements_is : parts.elements ≡ c.elements
  pub few : c.used ≤ max_sections
  pub near : c.body + c.body_length ≤ 20 + lib.ListN.length xs
  pub filled : Filled (part xs (c.body + 4) (c.body_length - 5))

abbrev pub SectionsTold : Edition → List ℕ → List Entry → Result Content Refusal → Type 0
SectionsTold e xs entries (Ok c) = Gathered e xs c entries
SectionsTold e xs entries (Err r) = walk (section_at e) (lib.ListN.length xs) 20 xs nothing ≡ told (Err r)
