-- The answer for all of s is i more than the answer for what is left.
use Rattle.std.proofs.Common.{◌≤◌, ◌+◌, ◌-◌, ◌≡◌, length, drop}
use Rattle.wire.specs.Bytes.{until_zero}
use Rattle.wire.proofs.until_zero.Given as goal

abbrev pub invariant-loop-i : goal.invariant-loop-i
invariant-loop-i l = (l.i ≤ length l.s) × (until_zero l.s ≡ l.i + until_zero (drop l.i l.s))

abbrev pub decreases-loop-i : goal.decreases-loop-i
decreases-loop-i l = length l.s - l.i
