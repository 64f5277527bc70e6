-- Change request 8: the checksum of a message of which only the flag word changes, from the old one, without rereading.
-- Assumes nothing: these are definitions.
use Rattle.std.specs.Prelude.{ℕ, ◌+◌, ◌*◌, ◌^◌, ◌<◌, ◌≡◌, List, ◌++◌, length}
use Rattle.std.specs.Int.Bits.{bit_xor}
use Rattle.wire.specs.Bytes.{Bytes, le32}
use Rattle.crc32c_tables.specs.Steps.{shift_bits}
use Rattle.crc32c.specs.Crc.{crc_of}

-- a change of the register, advanced over n bytes
unfoldable pub advance : (n change : ℕ) → ℕ
advance n change = shift_bits (8 * n) change

-- the new checksum, from the old one, both flag words and the number of bytes that follow the flag word: the change goes over the flag word's
-- own four bytes and over those
unfoldable pub refreshed : (checksum old new following : ℕ) → ℕ
refreshed checksum old new following = bit_xor checksum (advance (4 + following) (bit_xor old new))

-- from a right old checksum, it is the definition's new checksum: whatever stands before the flag word and behind it
abbrev pub Refreshes : Type 0
Refreshes = (before behind : List ℕ) (old new : ℕ) → Bytes before → Bytes behind → old < 2 ^ 32 → new < 2 ^ 32
    → refreshed (crc_of (before ++ (le32 old ++ behind))) old new (length behind) ≡ crc_of (before ++ (le32 new ++ behind))
