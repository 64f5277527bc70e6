-- What a line's call leaves in the lent bytes.
-- Assumes nothing: these are definitions.
use Rattle.std.specs.Prelude.{ℕ, ◌≡◌, List, ◌++◌, length, drop}

-- a text was written to the start of old, which gave new: r is its length, and what stood behind it stays
pub record TextWritten (text old new : List ℕ) (r : ℕ) : Type 0 where
  pub is : new ≡ text ++ drop r old
  pub size : r ≡ length text
