-- How far the answers of the private functions reach.
-- Assumes nothing: these are definitions.
use Rattle.std.specs.Prelude.{ℕ, ◌≤◌, Result, Ok, Err}
use Rattle.refusal.specs.declared.Refusal.{Refusal}
use Rattle.bson.specs.declared.Walk.{Walk}

-- a walk that passes from `least` to `most` bytes, or refuses
abbrev pub Spans : (least most : ℕ) → Result Walk Refusal → Type 0
Spans least most (Ok w) = (least ≤ w.size) × (w.size ≤ most)
Spans least most (Err r) = Unit {0}
