-- How long the bytes of a section of kind 1 are.
-- Assumes nothing.
use Prim.Native.Nat.{ℕ, ◌+◌}
use mathlib.Core.Path.{◌≡◌}
use mathlib.Core.List.{List, ◌∷◌}
use native.Mathlib.Omega.{arith}
use lib.ListN.{length, length-append}
use Rattle.wire.specs.Bytes.{le32}
use Rattle.message.specs.Append.{sequence_bytes}

module _ (name documents : List ℕ) where
  -- the size that the section states
  abbrev pub size_of : ℕ
  size_of = length name + 5 + length documents

  pub bytes_length : length (sequence_bytes name documents) ≡ 1 + size_of
  unfolding sequence_bytes le32
  bytes_length = rw (length-append name (0 ∷ documents)) (omega arith)
