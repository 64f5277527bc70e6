-- A run over a stream that comes in pieces: what a turn makes of the bytes at hand, and what a run prints.
-- Assumes nothing: these are definitions.
use Rattle.std.specs.Prelude.{ℕ, zero, suc, ◌+◌, ◌-◌, ◌*◌, ◌≤◌, Bool, true, false, ◌≡◌, length, drop, eqb}
use mathlib.Core.List.{List, [], ◌∷◌, ◌++◌, flatten}
use Rattle.listing_lines.specs.Lines.{version, first_line, message_line, big_line, bad_line, end_line}
use Rattle.listing.specs.Next.{next}
use Rattle.listing.specs.Listing.{listing}
use Rattle.listing.specs.declared.Run.{Run}
use Rattle.listing.specs.declared.Step.{Step}
use Rattle.listing.specs.declared.Step.TheVariants.{Message, Big, Bad, More, End}

-- nothing is behind the run
abbrev pub start : Run
start = record { offset = 0; messages = 0; length = 0; left = 0; done = false }

-- a message of n bytes is behind it; one of n bytes is passed over, of which so many are still to come; it is over
abbrev pub behind : ℕ → Run → Run
behind n r = record { offset = r.offset + n; messages = r.messages + 1; length = 0; left = 0; done = false }

abbrev pub passing : (n left : ℕ) → Run → Run
passing n left r = record { offset = r.offset; messages = r.messages; length = n; left = left; done = false }

abbrev pub over : Run → Run
over r = record { offset = r.offset; messages = r.messages; length = r.length; left = r.left; done = true }

-- what a turn makes of the bytes at hand: where the run stands then, how many of them are used up, the line that is printed, and whether
-- more bytes are to be read before the next turn
pub record Turned : Type 0 where
  pub run : Run
  pub used : ℕ
  pub line : List ℕ
  pub more : Bool

-- by what comes next: a message that is passed over has its line when it has passed
unfoldable pub stepped : Run → Step → Turned
stepped r (Message m) = record { run = behind m.length r; used = m.length; line = message_line r.offset m; more = false }
stepped r (Big n) = record { run = passing n n r; used = 0; line = []; more = false }
stepped r (Bad number place) = record { run = over r; used = 0; line = bad_line r.offset number place; more = false }
stepped r More = record { run = r; used = 0; line = []; more = true }
stepped r End = record { run = over r; used = 0; line = []; more = false }

-- inside a message that is passed over, with n bytes at hand: it has passed, or the stream ends inside it, or all bytes at hand are its own
unfoldable pub passed : Run → (ended : Bool) → (n : ℕ) → Turned
passed r ended n =
    elim (eqb (r.left - n) 0) [
      | true ↦ record { run = behind r.length r; used = r.left; line = big_line r.offset r.length; more = false }
      | false ↦ elim ended [
        | true ↦ record { run = over r; used = n; line = bad_line r.offset 3 0; more = false }
        | false ↦ record { run = passing r.length (r.left - n) r; used = n; line = []; more = true }
      ]
    ]

unfoldable pub turn : Run → (ended : Bool) → List ℕ → Turned
turn r ended s = elim (eqb r.left 0) [ true ↦ stepped r (next ended s) | false ↦ passed r ended (length s) ]

-- what a run has before it: the bytes at hand, and the pieces of the stream that are still to come; or the stream has ended
pub record Input : Type 0 where
  pub held : List ℕ
  pub pieces : List (List ℕ)
  pub ended : Bool

-- so many bytes at hand are used up; one piece more is read, or there is none
abbrev pub without : ℕ → Input → Input
without n i = record { held = drop n i.held; pieces = i.pieces; ended = i.ended }

unfoldable pub supplied : (held : List ℕ) → (pieces : List (List ℕ)) → Input
supplied held [] = record { held = held; pieces = []; ended = true }
supplied held (piece ∷ pieces) = record { held = held ++ piece; pieces = pieces; ended = false }

unfoldable pub onward : Turned → Input → Input
onward t i = elim t.more [ true ↦ supplied (drop t.used i.held) i.pieces | false ↦ without t.used i ]

-- what a run prints in at most so many turns
unfoldable pub printed : (turns : ℕ) → Run → Input → List ℕ
printed zero r i = []
printed (suc turns) r i =
    let t = turn r i.ended i.held in
    t.line ++ elim t.run.done [ true ↦ end_line t.run.messages | false ↦ printed turns t.run (onward t i) ]

-- nothing was read yet
abbrev pub unread : List (List ℕ) → Input
unread pieces = record { held = []; pieces = pieces; ended = false }

-- however a stream is cut into pieces, a run prints its listing
abbrev pub AnyPieces : Type 0
AnyPieces = (pieces : List (List ℕ)) (turns : ℕ) → 2 * length (flatten pieces) + length pieces + 3 ≤ turns
    → first_line version ++ printed turns start (unread pieces) ≡ listing (flatten pieces)
