-- Reading a stored listing s from line to line: the first bad or missing line is refused with 38 at its number, from 1.
-- Assumes nothing: these are definitions.
use Rattle.std.specs.Prelude.{ℕ, suc, ◌+◌, Bool, true, false, not, ◌&&◌, List, [], ◌∷◌, length, take, drop, leb, eqb}
use Rattle.wire.specs.Outcome.{Outcome, ok, refused, refuse, ◌>>=◌}
use Rattle.wire.specs.Walk.{step, Reader, walk}
use Rattle.opmsg.specs.Names.{same_text}
use Rattle.listing_lines.specs.Words
use Rattle.listing_lines.specs.Lines.{first_line}
use Rattle.listing_stored.specs.Version.{Version, versions, least_message, least_big, most_big}
use Rattle.listing_fields.specs.Numbers.{until_newline, fields_of, field, number, between, exactly, signed_number}

-- how far a listing is read: the number of the next line, the offset and the number of messages up to it, and whether `bad` and `end` were passed
pub record Position : Type 0 where
  pub line : ℕ
  pub offset : ℕ
  pub messages : ℕ
  pub bad : Bool
  pub ended : Bool

-- behind the first line
abbrev pub start : Position
start = record { line = 2; offset = 0; messages = 0; bad = false; ended = false }

-- behind a line for a message of so many bytes, behind `bad`, and behind `end`
abbrev pub after_message : Position → ℕ → Position
after_message p size = record { line = suc p.line; offset = p.offset + size; messages = suc p.messages; bad = p.bad; ended = p.ended }

abbrev pub after_bad : Position → Position
after_bad p = record { line = suc p.line; offset = p.offset; messages = p.messages; bad = true; ended = p.ended }

abbrev pub after_end : Position → Position
after_end p = record { line = suc p.line; offset = p.offset; messages = p.messages; bad = p.bad; ended = true }

-- a line of some kind at a position, by its fields
abbrev pub Rule : Type 0
Rule = Version → Position → List (List ℕ) → Outcome Position

-- `msg`, offset, length, requestID, responseTo, shown flags, sequences, elements
unfoldable pub message : Rule
message v p fs = do
  let k = p.line
  _ ← refuse 38 k (not (eqb (length fs) 8))
  _ ← exactly k p.offset (field 1 fs)
  size ← between k least_message v.longest (field 2 fs)
  _ ← signed_number k (field 3 fs)
  _ ← signed_number k (field 4 fs)
  _ ← number k (field 5 fs)
  _ ← between k 0 v.sequences (field 6 fs)
  _ ← between k 0 v.elements (field 7 fs)
  ok (after_message p size)

-- `big`, offset, length
unfoldable pub big : Rule
big v p fs = do
  let k = p.line
  _ ← refuse 38 k (not v.has_big)
  _ ← refuse 38 k (not (eqb (length fs) 3))
  _ ← exactly k p.offset (field 1 fs)
  size ← between k least_big most_big (field 2 fs)
  ok (after_message p size)

-- `bad`, offset, number, place
unfoldable pub bad : Rule
bad v p fs = do
  let k = p.line
  _ ← refuse 38 k (not (eqb (length fs) 4))
  _ ← exactly k p.offset (field 1 fs)
  _ ← number k (field 2 fs)
  _ ← number k (field 3 fs)
  ok (after_bad p)

-- `end`, messages
unfoldable pub end : Rule
end v p fs = do
  let k = p.line
  _ ← refuse 38 k (not (eqb (length fs) 2))
  _ ← exactly k p.messages (field 1 fs)
  ok (after_end p)

-- a kind of line: its first field, and its rule
pub record Kind : Type 0 where
  pub word : List ℕ
  pub rule : Rule

unfoldable pub kinds : List Kind
kinds =
    record { word = Words.msg; rule = message }
    ∷ record { word = Words.big; rule = big }
    ∷ record { word = Words.bad; rule = bad }
    ∷ record { word = Words.end; rule = end }
    ∷ []

unfoldable pub rule_of : List Kind → (k : ℕ) → (word : List ℕ) → Outcome Rule
rule_of [] k word = refused 38 k
rule_of (kind ∷ rest) k word = elim (same_text word kind.word) [ true ↦ ok kind.rule | false ↦ rule_of rest k word ]

-- the line at the start of xs, which a newline ends: nothing follows `end`, and only `end` follows `bad`
unfoldable pub line_at : Version → Reader Position
line_at v at xs p = do
  let k = p.line
  let n = until_newline xs
  _ ← refuse 38 k (leb (length xs) n)
  _ ← refuse 38 k p.ended
  let fs = fields_of (take n xs)
  _ ← refuse 38 k (p.bad && not (same_text (field 0 fs) Words.end))
  rule ← rule_of kinds k (field 0 fs)
  q ← rule v p fs
  step (n + 1) q

-- the version whose first line s begins with
unfoldable pub version_of : List Version → List ℕ → Outcome Version
version_of [] s = refused 38 1
version_of (v ∷ vs) s =
    let l = first_line v.number in
    elim (same_text (take (length l) s) l) [ true ↦ ok v | false ↦ version_of vs s ]

-- what a listing tells
pub record Told : Type 0 where
  pub version : ℕ
  pub messages : ℕ

unfoldable pub read_listing : List ℕ → Outcome Told
read_listing s = do
  v ← version_of versions s
  p ← walk (line_at v) (length s) 0 (drop (length (first_line v.number)) s) start
  _ ← refuse 38 p.line (not p.ended)
  ok (record { version = v.number; messages = p.messages })
