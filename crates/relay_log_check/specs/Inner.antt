-- What holds between two turns of the program that reads stored listings, and what a turn of it does.
-- Assumes nothing: these are definitions.
use Rattle.std.specs.Prelude.{ℕ, ◌+◌, ◌^◌, ◌≤◌, ◌<◌, ◌≡◌, List, ◌++◌}
use Rattle.listing_input.specs.Inner.{between, Lie}
use Rattle.listing_check.specs.Inner.{tell, counted}
use Rattle.relay_log_check.specs.declared.Progress.{Progress}

-- the length of the buffer
abbrev pub buffer_length : ℕ
buffer_length = 65536

-- the bytes at hand
abbrev pub held : Progress → List ℕ → List ℕ
held p buf = between p.window.at p.window.end buf

abbrev pub Lies : Progress → Type 0
Lies p = Lie p.window.at p.window.end buffer_length

pub record Held (p : Progress) : Type 0 where
  pub lies : Lies p
  pub few : counted p.standing < 2 ^ 63

-- a turn read a piece, perhaps of no bytes, and what is told of the listing stays the same, whatever comes behind
pub record Went (p : Progress) (old : List ℕ) (r : Progress) (new : List ℕ) : Type 0 where
  pub piece : List ℕ
  pub tells : (later : List ℕ) → tell p.standing (held p old ++ piece ++ later) ≡ tell r.standing (held r new ++ later)

-- and passed at most a line and a message
abbrev pub Further : Progress → Progress → Type 0
Further p r = counted r.standing ≤ counted p.standing + 2
