-- The loop's invariant: the text is among the first k names if it is among the next `left` from here. The measure is what is left of the bytes.
use Rattle.std.proofs.Common.{◌-◌, length}
use Rattle.opmsg_body_names.proofs.Elements.{Sought}
use Rattle.opmsg_body_names.proofs.named.Given as goal

abbrev pub invariant-loop-i : goal.invariant-loop-i
invariant-loop-i l = Sought l.xs l.k l.text l.i l.left

abbrev pub decreases-loop-i : goal.decreases-loop-i
decreases-loop-i l = length l.xs - l.i
