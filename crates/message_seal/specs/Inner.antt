-- What a store leaves in the lent bytes.
-- Assumes nothing: these are definitions.
use Rattle.std.specs.Prelude.{ℕ, List, ◌++◌, length, drop}

-- the bytes m stand at the start, and what stood behind them stays
abbrev pub overwritten : List ℕ → List ℕ → List ℕ
overwritten m old = m ++ drop (length m) old
