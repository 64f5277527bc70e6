-- What the functions that make a result ask of an answer.
-- Assumes nothing: these are definitions.
use Rattle.std.specs.Prelude.{ℕ, ◌^◌, ◌<◌, Result, Ok, Err}

-- the place of a refusal has 32 bits
abbrev pub Placed : {A E : Type 0} → (place : E → ℕ) → Result A E → Type 0
Placed place (Ok a) = Unit {0}
Placed place (Err r) = place r < 2 ^ 32
