-- Reading's answer, in numbers.
use Rattle.message.proofs.Refusals.{refusals_bounded}
use Rattle.relay_c_results.proofs.Room.{told_is}
use Rattle.relay_c.proofs.Tells.{told_placed}
use Rattle.relay_c.proofs.relay_read.Goals as goal

pub answered-requires : goal.answered-requires
answered-requires c = told_placed _ c.read.result (refusals_bounded.reads c.edition.result c.args.message.now) c.read.ensures

pub returns : goal.returns
returns c = rw (← c.edition.ensures, ← c.read.ensures) (rw told_is at c.answered.ensures)
