-- What a stored listing is: the lines that `specs/Listing.antt` of `listing` writes, of entries whose numbers the version allows. It says nothing of reading.
-- So the offsets run on from 0, length by length, `end` counts right, and a number has no leading zero, since no line is written otherwise.
-- Assumes nothing: these are definitions.
use Rattle.std.specs.Prelude.{ℕ, ◌+◌, ◌^◌, ◌≤◌, ◌<◌, true, ◌≡◌, ℤ, pos, negsuc}
use mathlib.Core.List.{List, [], ◌∷◌, Memᴰ}
use Rattle.listing_lines.specs.declared.Summary.{Summary}
use Rattle.listing.specs.Listing.{Entry, messages_of, listed}
use Rattle.listing_stored.specs.Version.{Version, versions, least_message, least_big, most_big}

abbrev pub Unsigned64 : ℕ → Type 0
Unsigned64 n = n < 2 ^ 64

-- `negsuc n` is −(n + 1)
abbrev pub Signed32 : ℤ → Type 0
Signed32 (pos n) = n < 2 ^ 31
Signed32 (negsuc n) = n < 2 ^ 31

-- a message that a version allows
pub record Allowed (v : Version) (m : Summary) : Type 0 where
  pub least : least_message ≤ m.length
  pub most : m.length ≤ v.longest
  pub request : Signed32 m.request_id
  pub response : Signed32 m.response_to
  pub flags : Unsigned64 m.flags
  pub sequences : m.sequences ≤ v.sequences
  pub elements : m.elements ≤ v.elements

-- entries that a version allows, from an offset on: nothing but the end follows `bad`
pub data Entries (v : Version) : (offset : ℕ) → List Entry → Type 0 where
  none : {offset : ℕ} → Entries v offset []
  message : {offset : ℕ} {m : Summary} {es : List Entry} → Unsigned64 offset → Allowed v m → Entries v (offset + m.length) es → Entries v offset (Entry.message m ∷ es)
  big : {offset size : ℕ} {es : List Entry} → Unsigned64 offset → v.has_big ≡ true → least_big ≤ size → size ≤ most_big → Entries v (offset + size) es → Entries v offset (Entry.big size ∷ es)
  bad : {offset number place : ℕ} → Unsigned64 offset → Unsigned64 number → Unsigned64 place → Entries v offset (Entry.bad number place ∷ [])

-- a stored listing of a version, with so many messages
pub data Listing : (version messages : ℕ) → List ℕ → Type 0 where
  listing : {v : Version} {es : List Entry} → Memᴰ v versions → Entries v 0 es → Unsigned64 (messages_of es) → Listing v.number (messages_of es) (listed v.number es)
