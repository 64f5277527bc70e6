-- Each way out has its test.
use borrow.Author.Tests.{lt-ltb, le-ltb}
use Rattle.wire.specs.Outcome.{refuse, ◌>>=◌}
use Rattle.bson_values.specs.Value.{sized}
use Rattle.bson_values.proofs.sized.Goals as goal

pub returns-then-s-n-clause-is : goal.returns-then-s-n-clause-is
unfolding sized ◌>>=◌ refuse
returns-then-s-n-clause-is c = λ v at. rw (sized, lt-ltb _ _ c.if-s-n.true)

pub returns-clause-is : goal.returns-clause-is
unfolding sized ◌>>=◌ refuse
returns-clause-is c = λ v at. rw (sized, le-ltb _ _ c.if-s-n.false)
