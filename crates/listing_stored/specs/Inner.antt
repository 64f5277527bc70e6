-- What the functions inside the reader tell, and the reading of a listing line by line.
-- Assumes nothing: these are definitions.
use Rattle.std.specs.Prelude.{ℕ, ◌+◌, ◌^◌, ◌≤◌, Bool, true, false, not, ◌&&◌, ◌≡◌, List, [], ◌∷◌, length, Option, Some, None, Result, Ok, Err}
use Rattle.wire.specs.Outcome.{Outcome, ok, refused, refuse, ◌>>=◌}
use Rattle.wire.specs.Walk.{walk}
use Rattle.opmsg.specs.Names.{same_text}
use Rattle.listing_lines.specs.Words
use Rattle.listing_stored.specs.Version.{Version}
use Rattle.listing_fields.specs.Numbers.{fields_of, field}
use Rattle.listing_stored.specs.Stored.{Position, start, Kind, message, big, bad, kinds, rule_of, line_at, Told}
use Rattle.listing_stored.specs.declared.Limits.{Limits}
use Rattle.listing_stored.specs.declared.Place.{Place}
use Rattle.listing_stored.specs.declared.Listing.{Listing}
use Rattle.listing_stored.specs.declared.WrongLine.{WrongLine}

-- ---- versions

abbrev pub limited : Limits → Version
limited v = record { number = v.number; longest = v.longest; sequences = v.sequences; elements = v.elements; has_big = v.big }

abbrev pub found_version : Option Limits → Outcome Version
found_version (Some v) = ok (limited v)
found_version None = refused 38 1

-- ---- lines

-- an offset of 65 bits: the last 64 of them, and the first
abbrev pub offset_of : (far : Bool) → ℕ → ℕ
offset_of true n = 2 ^ 64 + n
offset_of false n = n

abbrev pub position_of : Place → Position
position_of p = record { line = p.line; offset = offset_of p.far p.offset; messages = p.messages; bad = p.bad; ended = p.ended }

abbrev pub lined : (k : ℕ) → Option Place → Outcome Position
lined k (Some q) = ok (position_of q)
lined k None = refused 38 k

-- a line adds one to the lines, and at most one to the messages
abbrev pub Follows : Place → Option Place → Type 0
Follows p (Some q) = (q.line ≡ p.line + 1) × (q.messages ≤ p.messages + 1)
Follows p None = Unit {0}

-- the kinds of lines but `end`
unfoldable pub entries : List Kind
entries =
    record { word = Words.msg; rule = message }
    ∷ record { word = Words.big; rule = big }
    ∷ record { word = Words.bad; rule = bad }
    ∷ []

-- a line at a position, by its text without the newline
unfoldable pub judged : Version → Position → List ℕ → Outcome Position
judged v p l = do
  _ ← refuse 38 p.line p.ended
  _ ← refuse 38 p.line (p.bad && not (same_text (field 0 (fields_of l)) Words.end))
  rule ← rule_of kinds p.line (field 0 (fields_of l))
  rule v p (fields_of l)

-- a line that is no `end`, where neither `bad` nor `end` was passed
unfoldable pub judged_entry : Version → Position → List ℕ → Outcome Position
judged_entry v p l = do
  rule ← rule_of entries p.line (field 0 (fields_of l))
  rule v p (fields_of l)

-- the lines of xs from a position on
unfoldable pub run : Version → List ℕ → Position → Outcome Position
run v xs p = walk (line_at v) (length xs) 0 xs p

-- the answer at the end of the lines
unfoldable pub answered : Version → Position → Outcome Told
answered v p = do
  _ ← refuse 38 p.line (not p.ended)
  ok (record { version = v.number; messages = p.messages })

-- all lines behind the first
abbrev pub all_lines : Version → List ℕ → Outcome Told
all_lines v xs = run v xs start >>= answered v

-- how far an answer over n bytes goes: at most as many messages as bytes, and a line that is there or the next
abbrev pub Within : ℕ → Result Listing WrongLine → Type 0
Within n (Ok l) = l.messages ≤ n
Within n (Err w) = w.line ≤ n + 2
