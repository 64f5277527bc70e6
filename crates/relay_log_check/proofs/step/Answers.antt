-- What is told stays the same: a line was read, or more bytes behind those at hand.
use Rattle.relay_log_check.proofs.Steps.{went_on, went_more}
use Rattle.relay_log_check.proofs.step.Goals as goal

pub returns-in-Ok-On-clause-went : goal.returns-in-Ok-On-clause-went
returns-in-Ok-On-clause-went g c = went_on c.args.p c.args.buf.now _ _ _ (rw c.in-Ok-On.field-0-is at c.in-Ok-On.ensures).3

pub returns-in-Ok-More-clause-went : goal.returns-in-Ok-More-clause-went
returns-in-Ok-More-clause-went g c =
    let read = c.filled-window in
    rw read.ensures.told (went_more c.args.p c.args.buf.now _ _ _ _ read.ensures.front read.ensures.inside.0)
