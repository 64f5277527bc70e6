-- What comes next in a stream of messages, by the bytes at hand.
-- Assumes nothing: these are definitions.
use Rattle.std.specs.Prelude.{ℕ, Bool, true, false, not, ◌&&◌, List, length, eqb, leb, ltb}
use Rattle.wire.specs.Outcome.{Outcome, ok, refused}
use Rattle.wire.specs.Bytes.{under}
use Rattle.opmsg.specs.Flags.{house}
use Rattle.opmsg.specs.Layout.{max_length, message_length}
use Rattle.opmsg.specs.Read.{read}
use Rattle.opmsg.specs.View.{sequence_count}
use Rattle.opmsg.specs.declared.View.{View}
use Rattle.listing_lines.specs.declared.Summary.{Summary}
use Rattle.listing.specs.declared.Step.{Step}
use Rattle.listing.specs.declared.Step.TheVariants.{Message, Big, Bad, More, End}

-- the bytes that the program can hold
unfoldable pub buffer_length : ℕ
buffer_length = 65536

-- what a line tells of a message
abbrev pub summary_of : View → Summary
summary_of v = record {
  length = v.length;
  request_id = v.request_id;
  response_to = v.response_to;
  flags = v.flags;
  sequences = sequence_count v;
  elements = v.elements;
}

-- the bytes at hand are short of a header, or of the message whose length it says and that the program can hold
unfoldable pub short : List ℕ → Bool
short s =
    elim (ltb (length s) 16) [
      | true ↦ true
      | false ↦ not (under 16 (message_length s)) && leb (message_length s) buffer_length && ltb (length s) (message_length s)
    ]

-- checks 1 and 2 are passed, and the message is longer than the program can hold (so its length is not under 16)
unfoldable pub long : List ℕ → Bool
long s = leb 16 (length s) && leb (message_length s) max_length && ltb buffer_length (message_length s)

-- what a reading says comes next
unfoldable pub step_of : Outcome View → Step
step_of (ok v) = Message (summary_of v)
step_of (refused number place) = Bad number place

-- a longer message is passed over with nothing else checked; any other is read
unfoldable pub judge : List ℕ → Step
judge s = elim (long s) [ true ↦ Big (message_length s) | false ↦ step_of (read house s) ]

-- while more bytes may come they are waited for; where the input has ended and nothing is left, that is the end
unfoldable pub next : (ended : Bool) → List ℕ → Step
next false s = elim (short s) [ true ↦ More | false ↦ judge s ]
next true s = elim (eqb (length s) 0) [ true ↦ End | false ↦ judge s ]
