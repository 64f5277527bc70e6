-- No byte that was passed is a dot.
use Rattle.std.proofs.Common.{◌-◌, ◌≤◌, length}
use Rattle.opmsg_dotted.specs.Inner.{Undotted}
use Rattle.opmsg_dotted.proofs.clear_by.Given as goal

abbrev pub invariant-loop-i : goal.invariant-loop-i
invariant-loop-i l = (l.i ≤ length l.text) × Undotted l.i l.text

abbrev pub decreases-loop-i : goal.decreases-loop-i
decreases-loop-i l = length l.text - l.i
