-- What moving bytes to the front leaves in the lent bytes.
-- Assumes nothing: these are definitions.
use Rattle.std.specs.Prelude.{ℕ, ◌-◌, true, false, ◌&&◌, List, ◌++◌, length, take, drop, leb}

-- the bytes from a place to an end stand at the front, and the others stay; nothing changes where there are no such bytes
unfoldable pub to_front : (at end : ℕ) → List ℕ → List ℕ
to_front at end old = elim (leb at end && leb end (length old)) [ true ↦ take (end - at) (drop at old) ++ drop (end - at) old | false ↦ old ]
