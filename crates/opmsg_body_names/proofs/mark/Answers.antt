use Rattle.opmsg_body_names.specs.Inner.{marked, marking}
use Rattle.opmsg_body_names.proofs.Distinct.{slot_small}
use Rattle.opmsg_body_names.proofs.mark.Goals as goal

pub bounds-marks-place : goal.bounds-marks-place
bounds-marks-place c = rw c.slot-place.ensures (slot_small _)

pub bounds-marks-place-2 : goal.bounds-marks-place-2
bounds-marks-place-2 c = rw c.slot-place.ensures (slot_small _)

pub returns-clause-tells : goal.returns-clause-tells
unfolding marked
returns-clause-tells c = rw (c.bit-set.ensures, c.slot-place.ensures)

pub returns-clause-makes : goal.returns-clause-makes
unfolding marking
returns-clause-makes c = rw (c.bit-set.ensures, c.slot-place.ensures)
