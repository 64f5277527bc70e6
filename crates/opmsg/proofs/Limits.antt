-- What is used of the limits of a message: nothing else depends on their numbers.
-- Assumes nothing.
use Prim.Native.Nat.{ℕ, ◌^◌, ◌≤◌, ◌<◌}
use mathlib.Core.Bool.{true, false}
use native.Mathlib.Omega.{arith}
use Rattle.opmsg.specs.Flags.{checksummed}
use Rattle.opmsg.specs.Layout.{max_length, checksum_size}

pub max_length_small : max_length < 2 ^ 30
unfolding max_length
max_length_small = omega arith

pub checksum_small : (flags : ℕ) → checksum_size flags ≤ 4
unfolding checksum_size
checksum_small flags =
    elim (checksummed flags) as (λ c. elim c [ true ↦ 4 | false ↦ 0 ] ≤ 4) [ true ↦ omega arith | false ↦ omega arith ]
