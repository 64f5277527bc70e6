-- The bytes passed are such.
use Rattle.std.proofs.Common.{◌-◌, length}
use Rattle.utf8_ascii.specs.Inner.{PlainRun}
use Rattle.utf8_ascii.proofs.until_zero.Given as goal

abbrev pub invariant-loop-i : goal.invariant-loop-i
invariant-loop-i l = PlainRun l.i l.s

abbrev pub decreases-loop-i : goal.decreases-loop-i
decreases-loop-i l = length l.s - l.i
