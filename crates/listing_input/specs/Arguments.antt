-- What the arguments of a program name.
-- Assumes nothing: these are definitions.
use Rattle.std.specs.Prelude.{ℕ, List, Option, Some, None, take, get_or, ◌≢◌}
use Rattle.std.specs.Str.{IsUtf8}
use Rattle.listing_input.specs.declared.arguments.Source.{Source}

-- a file is one whose name, n bytes, is text, and no option, which begins with a dash
abbrev pub Named : List ℕ → Option Source → Type 0
Named name (Some (Source.File file n)) = IsUtf8 (take n name) × (get_or (take n name) 0 0 ≢ 0x2D)
Named name (Some Source.Input) = Unit {0}
Named name None = Unit {0}
