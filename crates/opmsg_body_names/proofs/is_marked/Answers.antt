use Rattle.opmsg_body_names.specs.Inner.{marked}
use Rattle.opmsg_body_names.proofs.Distinct.{slot_small}
use Rattle.opmsg_body_names.proofs.is_marked.Goals as goal

pub bounds-marks-place : goal.bounds-marks-place
bounds-marks-place c = rw c.slot-place.ensures (slot_small _)

pub returns : goal.returns
unfolding marked
returns c = rw (c.bit-set.ensures, c.slot-place.ensures)
