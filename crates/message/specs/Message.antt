-- Messages put together from their parts, and what a call that writes one leaves.
-- Assumes nothing: these are definitions.
use Rattle.std.specs.Prelude.{ℕ, ◌+◌, true, false, List, [], ◌++◌, length, drop}
use Rattle.wire.specs.Outcome.{Outcome, ok, refused, ◌>>=◌}
use Rattle.wire.specs.Bytes.{le32}
use Rattle.crc32c.specs.Crc.{crc_of}
use Rattle.opmsg.specs.Flags.{checksummed}
use Rattle.opmsg.specs.Layout.{checksum_size}
use Rattle.opmsg.specs.declared.View.{View}

-- the checksum of the bytes m, where bit 0 is set
unfoldable pub checksum : ℕ → List ℕ → List ℕ
checksum flags m = elim (checksummed flags) [ true ↦ le32 (crc_of m) | false ↦ [] ]

-- a message of its 16 bytes of header, its flag word and its sections
unfoldable pub message : List ℕ → ℕ → List ℕ → List ℕ
message header flags sections =
    let m = header ++ (le32 flags ++ sections) in
    m ++ checksum flags m

-- how long it is
unfoldable pub whole_length : ℕ → List ℕ → ℕ
whole_length flags sections = 20 + length sections + checksum_size flags

-- what a call that writes leaves: the view that it answers, and the message
pub record Written : Type 0 where
  pub view : View
  pub bytes : List ℕ

-- the view that such a call answers
unfoldable pub viewed : Outcome Written → Outcome View
viewed o = do
  w ← o
  ok w.view

-- the lent output after such a call: the message and then what stood there, or all as it was
unfoldable pub output : Outcome Written → List ℕ → List ℕ
output (ok w) old = w.bytes ++ drop (length w.bytes) old
output (refused number place) old = old
