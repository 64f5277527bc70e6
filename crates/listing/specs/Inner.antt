-- How far what comes next reaches, and what the code of a turn does.
-- Assumes nothing: these are definitions.
use Rattle.std.specs.Prelude.{ℕ, ◌^◌, ◌<◌, ◌≤◌, ◌≡◌, List}
use Rattle.io.specs.Counts.{IsPrefixLen}
use Rattle.opmsg.specs.Layout.{max_length}
use Rattle.listing_lines.specs.Written.{TextWritten}
use Rattle.listing.specs.Next.{buffer_length}
use Rattle.listing.specs.Run.{Turned}
use Rattle.listing.specs.declared.Run.{Run}
use Rattle.listing.specs.declared.Turn.{Turn}
use Rattle.listing.specs.declared.Step.{Step}
use Rattle.listing.specs.declared.Step.TheVariants.{Message, Big, Bad, More, End}

-- a message that is read lies within the n bytes at hand, one that is passed over does not fit the buffer, and more bytes are asked for only
-- where the buffer has room
abbrev pub StepWithin : ℕ → Step → Type 0
StepWithin n (Message m) = (0 < m.length) × (m.length ≤ n) × (m.length ≤ buffer_length)
StepWithin n (Big m) = (buffer_length < m) × (m ≤ max_length)
StepWithin n (Bad number place) = Unit {0}
StepWithin n More = n < buffer_length
StepWithin n End = Unit {0}

-- a message more can be counted
pub record Near (run : Run) : Type 0 where
  pub offset : run.offset < 2 ^ 63
  pub messages : run.messages < 2 ^ 63

-- a turn of the code is one of the definition, and its line stands where `old` stood, which gave `new`
pub record Takes (t : Turned) (old new : List ℕ) (r : Turn) : Type 0 where
  pub run : r.run ≡ t.run
  pub used : r.used ≡ t.used
  pub more : r.more ≡ t.more
  pub line : TextWritten t.line old new r.line
  pub counts : IsPrefixLen r.line new
