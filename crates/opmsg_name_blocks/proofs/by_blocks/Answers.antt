use Rattle.opmsg_name_blocks.proofs.Blocks.{cleared_none, cleared_all}
use Rattle.opmsg_name_blocks.proofs.by_blocks.Goals as goal

pub loop-s-init : goal.loop-s-init
loop-s-init c = cleared_none _

pub returns : goal.returns
returns c = cleared_all _ _ _ c.loop-s.invariant c.loop-s-test.false
