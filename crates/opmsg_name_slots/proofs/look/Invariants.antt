-- The loop's invariant: the slots before j are full, of other texts.
use Rattle.opmsg_name_slots.proofs.Slots.{Passed}
use Rattle.opmsg_name_slots.proofs.look.Given as goal

abbrev pub invariant-loop-j : goal.invariant-loop-j
invariant-loop-j l = Passed l.xs l.slots l.text l.start l.j
