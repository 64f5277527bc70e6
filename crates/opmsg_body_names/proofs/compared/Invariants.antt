-- The loop's invariant: the k elements before place i have names that differ, and their marks are made. The measure is what is left of the bytes.
use Rattle.std.proofs.Common.{◌-◌, length}
use Rattle.opmsg_body_names.proofs.Elements.{NamesPassed}
use Rattle.opmsg_body_names.proofs.compared.Given as goal

abbrev pub invariant-loop-i : goal.invariant-loop-i
invariant-loop-i l = NamesPassed l.at l.xs l.i l.k l.marks

abbrev pub decreases-loop-i : goal.decreases-loop-i
decreases-loop-i l = length l.xs - l.i
