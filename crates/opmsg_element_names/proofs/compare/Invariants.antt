-- The loop's invariant: the text and the name agree before place i.
use Rattle.opmsg_element_names.proofs.Ordering.{Agreed}
use Rattle.opmsg_element_names.proofs.compare.Given as goal

abbrev pub invariant-loop-i : goal.invariant-loop-i
invariant-loop-i l = Agreed l.text l.bytes l.i
