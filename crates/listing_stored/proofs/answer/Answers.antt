-- The one check at the end.
use Rattle.std.proofs.Common.{not, sym, ap}
use Rattle.wire.proofs.Outcome.{pass, stop}
use Rattle.listing_stored.specs.Inner.{answered}
use Rattle.listing_stored.proofs.answer.Goals as goal

pub returns-then-p-clause-is : goal.returns-then-p-clause-is
unfolding answered
returns-then-p-clause-is c = sym (pass 38 c.args.p.line _ (ap not c.if-p.true))

pub returns-else-p-clause-is : goal.returns-else-p-clause-is
unfolding answered
returns-else-p-clause-is c = sym (stop 38 c.args.p.line _ (ap not c.if-p.false))
