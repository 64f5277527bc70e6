-- What holds between two turns of the listing's program, and what a turn of it does.
-- Assumes nothing: these are definitions.
use Rattle.std.specs.Prelude.{ℕ, ◌+◌, ◌*◌, ◌^◌, ◌≤◌, ◌≡◌, List, []}
use Rattle.listing_input.specs.Inner.{between, Lie}
use Rattle.listing.specs.Next.{buffer_length}
use Rattle.listing.specs.Run.{Turned, Input, onward}
use Rattle.listing.specs.Inner.{Near}
use Rattle.listing.specs.declared.Turn.{Turn}
use Rattle.relay_log.specs.declared.Progress.{Progress}

-- the most turns of a run
abbrev pub turns : ℕ
turns = 2 ^ 47

-- the bytes at hand
abbrev pub held : Progress → List ℕ → List ℕ
held p buf = between p.window.at p.window.end buf

-- what a run has before it, where the pieces are still to come
abbrev pub input : Progress → (buf : List ℕ) → (pieces : List (List ℕ)) → Input
input p buf pieces = record { held = held p buf; pieces = pieces; ended = p.window.ended }

-- they lie in the buffer
abbrev pub Lies : Progress → Type 0
Lies p = Lie p.window.at p.window.end buffer_length

pub record Held (p : Progress) : Type 0 where
  pub lies : Lies p
  pub inside : p.run.left ≤ p.run.length
  pub near : Near p.run

-- a turn of the code is one of the definition
pub record Taken (t : Turned) (r : Turn) : Type 0 where
  pub run : r.run ≡ t.run
  pub used : r.used ≡ t.used
  pub more : r.more ≡ t.more

-- the program took a turn: the run stands where that leads, and what it has before it is what the turn left, with what was read, if it was asked for
pub record Took (t : Turned) (p : Progress) (old : List ℕ) (r : Progress) (new : List ℕ) : Type 0 where
  pub run : r.run ≡ t.run
  pub pieces : List (List ℕ)
  pub before : onward t (input p old pieces) ≡ input r new []

-- where so many turns are left: a turn uses at most a buffer's bytes and one message
pub record Going (p : Progress) (left : ℕ) : Type 0 where
  pub lies : Lies p
  pub inside : p.run.left ≤ p.run.length
  pub offset : p.run.offset + p.run.length + buffer_length * left ≤ buffer_length * turns + p.run.left
  pub messages : p.run.messages + left ≤ turns
