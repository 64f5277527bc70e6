use Rattle.std.proofs.Common.{arith, rules}
use Rattle.utf8_ascii.proofs.OneByte.{plain_one}
use Rattle.utf8_ascii.proofs.until_zero.Goals as goal

pub loop-i-preserved : goal.loop-i-preserved
loop-i-preserved c = plain_one c.args.s.now c.loop-i.i c.loop-i.invariant (omega arith) (search rules)
