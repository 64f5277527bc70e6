-- The lines of a listing, as document 01 has them.
-- Assumes nothing: these are definitions.
use Rattle.std.specs.Prelude.{ℕ, List, [], ◌∷◌}
use Rattle.listing_lines.specs.Decimal.{decimal, signed_decimal}
use Rattle.listing_lines.specs.Words
use Rattle.listing_lines.specs.Fields.{line}
use Rattle.listing_lines.specs.declared.Summary.{Summary}

-- the version of the listings that are written
abbrev pub version : ℕ
version = 2

-- `relay-log`, version
unfoldable pub first_line : (version : ℕ) → List ℕ
first_line version = line (Words.relay_log ∷ decimal version ∷ [])

-- `msg`, offset, length, requestID, responseTo, shown flags, sequences, elements
unfoldable pub message_line : (offset : ℕ) → Summary → List ℕ
message_line offset m =
    line (
    Words.msg
    ∷ decimal offset
    ∷ decimal m.length
    ∷ signed_decimal m.request_id
    ∷ signed_decimal m.response_to
    ∷ decimal m.flags
    ∷ decimal m.sequences
    ∷ decimal m.elements
    ∷ []
    )

-- `big`, offset, length
unfoldable pub big_line : (offset length : ℕ) → List ℕ
big_line offset length = line (Words.big ∷ decimal offset ∷ decimal length ∷ [])

-- `bad`, offset, number, place counted from the message
unfoldable pub bad_line : (offset number place : ℕ) → List ℕ
bad_line offset number place = line (Words.bad ∷ decimal offset ∷ decimal number ∷ decimal place ∷ [])

-- `end`, messages read or passed over
unfoldable pub end_line : (messages : ℕ) → List ℕ
end_line messages = line (Words.end ∷ decimal messages ∷ [])
