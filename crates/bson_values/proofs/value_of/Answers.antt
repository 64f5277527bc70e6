-- Each arm is told which kind it is, and its callees say the rest.
use Rattle.std.proofs.Common.{arith}
use Rattle.std.proofs.lemmas.Grind.{common_steps}
use Rattle.wire.specs.Outcome.{◌>>=◌}
use Rattle.bson_values.proofs.value_of.Goals as goal

pub returns-in-Bytes-clause-is : goal.returns-in-Bytes-clause-is
unfolding ◌>>=◌
returns-in-Bytes-clause-is c v = grind (arith, common_steps, c.sized.ensures.is v v)

pub returns-in-Boolean-clause-is : goal.returns-in-Boolean-clause-is
unfolding ◌>>=◌
returns-in-Boolean-clause-is c v = grind (arith, common_steps, c.boolean.ensures.is v v)

pub returns-in-String-clause-is : goal.returns-in-String-clause-is
unfolding ◌>>=◌
returns-in-String-clause-is c v = grind (arith, common_steps, c.string.ensures.is v v)

pub returns-in-Binary-clause-is : goal.returns-in-Binary-clause-is
unfolding ◌>>=◌
returns-in-Binary-clause-is c v = grind (arith, common_steps, c.binary.ensures.is v v)

pub returns-in-Regex-clause-is : goal.returns-in-Regex-clause-is
unfolding ◌>>=◌
returns-in-Regex-clause-is c v = grind (arith, common_steps, c.regex.ensures.is v)

pub returns-in-Pointer-clause-is : goal.returns-in-Pointer-clause-is
unfolding ◌>>=◌
returns-in-Pointer-clause-is c v = grind (arith, common_steps, c.pointer.ensures.is v)
