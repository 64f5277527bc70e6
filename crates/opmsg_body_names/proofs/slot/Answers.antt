use Rattle.opmsg_body_names.specs.Inner.{slot_of}
use Rattle.opmsg_body_names.proofs.slot.Goals as goal

pub returns : goal.returns
unfolding slot_of
returns c = rw (slot_of, ← c.end_words-e.ensures.0, ← c.end_words-e.ensures.1) c.spread.ensures
