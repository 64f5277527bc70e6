-- What is stored of a message's sections.
-- Assumes nothing: these are definitions.
use Rattle.std.specs.Prelude.{ℕ, List, map}
use mathlib.Core.List.{flat_map}
use Rattle.opmsg.specs.declared.Entry.{Entry}
use Rattle.message.specs.Move.{section_in}

-- the bytes of the sections of s that some entries say
abbrev pub laid : (s : List ℕ) → List Entry → List ℕ
laid s entries = flat_map (section_in s) (map (λ x. x.section) entries)
