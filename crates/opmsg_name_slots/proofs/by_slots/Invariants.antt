-- The loop's invariant: the names before place i differ, and each is held by a slot. The measure is what is left of the bytes.
use Rattle.std.proofs.Common.{◌-◌, length}
use Rattle.opmsg_name_slots.proofs.Slots.{Slotted}
use Rattle.opmsg_name_slots.proofs.by_slots.Given as goal

abbrev pub invariant-loop-i : goal.invariant-loop-i
invariant-loop-i l = Slotted (length l.initial.slots) l.xs l.slots l.i

abbrev pub decreases-loop-i : goal.decreases-loop-i
decreases-loop-i l = length l.xs - l.i
