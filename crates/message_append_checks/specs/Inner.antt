-- What an append checks behind reading, what its view shows, and what is known once its parts are examined.
-- Assumes nothing: these are definitions.
use Rattle.std.specs.Prelude.{ℕ, ◌+◌, ◌-◌, not, List, ◌++◌, ◌≡◌, length, set, take, drop, ltb, leb, eqb, Result, Ok, Err}
use Rattle.wire.specs.Outcome.{Outcome, ok, refuse, ◌>>=◌, refused}
use Rattle.wire.specs.Bytes.{until_zero}
use Rattle.wire.specs.Walk.{walk}
use Rattle.utf8.specs.Text.{text_at}
use Rattle.opmsg.specs.Flags.{knows}
use Rattle.opmsg.specs.Layout.{max_length, sections_end}
use Rattle.opmsg.specs.Sections.{max_sequences, sequence_at, body_of, next_document}
use Rattle.opmsg.specs.View.{sections_of, sequence_count}
use Rattle.opmsg.specs.Read.{read}
use Rattle.opmsg.specs.declared.Edition.{Edition}
use Rattle.opmsg.specs.declared.Range.{Range}
use Rattle.opmsg.specs.declared.View.{View}
use Rattle.message.specs.Append.{sequence_bytes, appended, append}
use Rattle.refusal.specs.Told.{number}
use Rattle.refusal.specs.declared.Refusal.{Refusal}
use Rattle.message_append_checks.specs.declared.Found.{Found}

-- the checks between reading the message and reading the new one, which has `whole` bytes; the sections end at a place, and `count` sequences are there
unfoldable pub allowed : Edition → (end count : ℕ) → (identifier : List ℕ) → (whole room : ℕ) → Outcome (Unit {0})
allowed e end count identifier whole room = do
  _ ← refuse 10 end (not (knows e 1))
  _ ← refuse 14 end (leb max_sequences count)
  _ ← refuse 13 (end + 5) (eqb (length identifier) 0)
  _ ← refuse 13 (end + 5) (ltb (until_zero identifier) (length identifier))
  _ ← refuse 2 0 (ltb max_length whole)
  refuse 25 0 (ltb room whole)

-- and then the identifier as text
abbrev pub permitted : Edition → (end count : ℕ) → (identifier : List ℕ) → (whole room : ℕ) → Outcome (Unit {0})
permitted e end count identifier whole room = allowed e end count identifier whole room >>= λ _. text_at (end + 5) identifier

-- the body's part, by a view
abbrev pub shown_body : View → Range
shown_body v = body_of (sections_of v)

-- the view with one sequence more, at the first entry behind the body's and the other sequences':
-- its kind byte is at a place, its identifier has n bytes and its documents d
unfoldable pub grown : View → (at n d documents elements : ℕ) → View
grown v at n d documents elements = record {
  length = v.length + (n + 6 + d);
  request_id = v.request_id;
  response_to = v.response_to;
  flags = v.flags;
  entries = set v.entries (sequence_count v + 1) (record { section = sequence_at at n d documents });
  elements = elements;
}

-- what is known where only names are left to check: the message is read, the checks are passed, the identifier is text, and the documents are counted;
-- `used` entries show the sections
pub record Ready (e : Edition) (s identifier documents : List ℕ) (v : View) (end used number elements room : ℕ) : Type 0 where
  pub ended : end ≡ sections_end s
  pub shown : read e s ≡ ok v
  pub behind : used ≡ sequence_count v + 1
  pub passed : permitted e end (sequence_count v) identifier (v.length + (length identifier + 6 + length documents)) room ≡ ok tt
  pub counted : walk next_document (length documents) (end + (length identifier + 6)) documents (record { documents = 0; elements = v.elements })
      ≡ ok (record { documents = number; elements = elements })

-- the message that grows by an identifier and documents, or the refusal
abbrev pub Examined : Edition → (s : List ℕ) → View → (identifier documents : List ℕ) → (room : ℕ) → Result Found Refusal → Type 0
Examined e s v identifier documents room (Ok f) = Ready e s identifier documents v f.end f.used f.documents f.elements room
    × (append e s identifier documents room
    ≡ ok (record { view = grown v f.end (length identifier) (length documents) f.documents f.elements; bytes = appended s v.flags (take (f.end - 20) (drop 20 s) ++ sequence_bytes identifier documents) }))
Examined e s v identifier documents room (Err r) = append e s identifier documents room ≡ refused (number r.reason) r.place
