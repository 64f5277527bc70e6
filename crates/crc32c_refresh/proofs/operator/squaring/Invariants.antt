-- The turns that are left take what there is to the result.
use Rattle.crc32c_refresh.specs.Operator.{squaring}
use Rattle.crc32c_refresh.proofs.Turns.{Squaring}
use Rattle.crc32c_refresh.proofs.operator.squaring.Given as goal

abbrev pub invariant-loop-left : goal.invariant-loop-left
invariant-loop-left l = Squaring l.power l.left l.c (squaring 64 l.fn.m l.n l.change)

abbrev pub decreases-loop-left : goal.decreases-loop-left
decreases-loop-left l = l.left
