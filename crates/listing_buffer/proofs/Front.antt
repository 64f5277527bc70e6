-- Where bytes stand that were moved to the front.
-- Assumes nothing.
use Prim.Native.Nat.{ℕ, ◌-◌, ◌≤◌}
use mathlib.Core.Path.{◌≡◌}
use mathlib.Core.List.{List}
use native.Mathlib.Omega.{arith}
use lib.ListN.{length, take, drop, length-drop}
use lib.Seq.{take_at, length-take-le}
use borrow.Author.Tests.{le-leb}
use Rattle.listing_buffer.specs.Front.{to_front}

-- the bytes from a place to an end, moved to the front
pub at_front : (at end : ℕ) (old : List ℕ) → at ≤ end → end ≤ length old → take (end - at) (to_front at end old) ≡ take (end - at) (drop at old)
unfolding to_front
at_front at end old h k =
    let size : length (take (end - at) (drop at old)) ≡ end - at = length-take-le (end - at) (drop at old) (simp length-drop (omega arith)) in
    rw (to_front, le-leb at end h, le-leb end (length old) k) (take_at (take (end - at) (drop at old)) (drop (end - at) old) (end - at) size)
