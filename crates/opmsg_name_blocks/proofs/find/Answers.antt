use Rattle.std.proofs.Common.{arith}
use Rattle.opmsg_name_blocks.proofs.Table.{narrowed_left, narrowed_right}
use Rattle.opmsg_name_blocks.proofs.find.Goals as goal

pub loop-low-preserved-in-Less : goal.loop-low-preserved-in-Less
loop-low-preserved-in-Less c =
    let k = c.loop-low in
    narrowed_left _ _ _ _ c.requires.0 k.low k.high k.invariant _ (omega arith) (omega arith) c.in-Less.ensures

pub loop-low-preserved : goal.loop-low-preserved
loop-low-preserved c =
    let k = c.loop-low in
    narrowed_right _ _ _ _ c.requires.0 k.low k.high k.invariant _ (omega arith) (omega arith) c.in-Greater.ensures
