-- The loop's invariant: each name has its mark, or is among those from place i on. The measure is what is left of the bytes.
use Rattle.std.proofs.Common.{◌-◌, ◌≤◌, length}
use Rattle.opmsg_body_names.proofs.Elements.{Marking}
use Rattle.opmsg_body_names.proofs.mark_all.Given as goal

abbrev pub invariant-loop-i : goal.invariant-loop-i
invariant-loop-i l = Marking l.xs l.i l.marks × (l.number ≤ l.i)

abbrev pub decreases-loop-i : goal.decreases-loop-i
decreases-loop-i l = length l.xs - l.i
