-- What is known of a message that was read.
-- Assumes nothing: these are definitions.
use Rattle.std.specs.Prelude.{ℕ, ◌-◌, ◌≤◌, ◌≡◌, List, ◌++◌, length, take}
use Rattle.wire.specs.Outcome.{ok}
use Rattle.wire.specs.Bytes.{le32}
use Rattle.opmsg.specs.Layout.{checksum_size, section_bytes}
use Rattle.opmsg.specs.Read.{read}
use Rattle.opmsg.specs.declared.Edition.{Edition}
use Rattle.opmsg.specs.declared.View.{View}

-- s begins with a message of which this length and this flag word are shown
pub record Shown (s : List ℕ) (size flags : ℕ) : Type 0 where
  pub edition : Edition
  pub view : View
  pub reads : read edition s ≡ ok view
  pub size_is : view.length ≡ size
  pub flags_is : view.flags ≡ flags

-- the first bytes of out, up to an end, are those of that message with this flag word, but for its checksum
pub record Reflagged (s out : List ℕ) (end flags : ℕ) : Type 0 where
  pub size : ℕ
  pub shown : Shown s size flags
  pub end_is : end ≡ size - checksum_size flags
  pub room : end ≤ length out
  pub stands : take end out ≡ take 16 s ++ (le32 flags ++ section_bytes s)
