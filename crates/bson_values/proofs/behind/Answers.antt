-- Each arm is told which answer it is.
use Rattle.std.proofs.Common.{arith, rules}
use Rattle.std.proofs.lemmas.Grind.{common_steps}
use Rattle.wire.specs.Outcome.{◌>>=◌}
use Rattle.bson_values.proofs.behind.Goals as goal

pub returns-in-Ok-clause-is : goal.returns-in-Ok-clause-is
unfolding ◌>>=◌
returns-in-Ok-clause-is c = λ v at. rw c.in-Ok.is

pub returns-in-Err-Broken-clause-is : goal.returns-in-Err-Broken-clause-is
unfolding ◌>>=◌
returns-in-Err-Broken-clause-is c = search rules

pub returns-in-Err-IllFormed-clause-is : goal.returns-in-Err-IllFormed-clause-is
unfolding ◌>>=◌
returns-in-Err-IllFormed-clause-is c = grind (arith, common_steps)
