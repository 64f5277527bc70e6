-- The bytes at hand in a buffer.
-- Assumes nothing: these are definitions.
use Rattle.std.specs.Prelude.{ℕ, ◌-◌, ◌≤◌, List, take, drop}

-- those from a place to an end
abbrev pub between : (at end : ℕ) → List ℕ → List ℕ
between at end buf = take (end - at) (drop at buf)

-- they lie in a buffer of so many bytes
pub record Lie (at end size : ℕ) : Type 0 where
  pub order : at ≤ end
  pub within : end ≤ size
