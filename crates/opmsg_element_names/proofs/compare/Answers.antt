use Rattle.std.proofs.Common.{arith}
use Rattle.opmsg_element_names.proofs.Ordering.{agreed_first, agreed_before, agreed_after, agreed_longer, agreed_more, bytes_end}
use Rattle.opmsg_element_names.proofs.compare.Goals as goal
use Rattle.opmsg_element_names.proofs.compare.Goals.{then-bytes-i-via-then-bytes-i, then-bytes-i-via-else-bytes-i+then-bytes-i-2}

pub loop-i-init : goal.loop-i-init
loop-i-init c = let r = c.common-i.ensures in agreed_first _ _ c.requires _ r.within.0 r.within.1 r.same

pub returns-then-bytes-i : goal.returns-then-bytes-i
returns-then-bytes-i c =
    let k = c.loop-i in
    elim c.then-bytes-i.branch [
      | then-bytes-i-via-then-bytes-i w ↦ agreed_longer _ _ c.requires k.i k.invariant (omega arith) c.loop-i-test.true
      | then-bytes-i-via-else-bytes-i+then-bytes-i-2 w ↦ agreed_after _ _ c.requires k.i k.invariant (omega arith)
    ]

pub returns-then-text-i : goal.returns-then-text-i
returns-then-text-i c = agreed_before _ _ c.requires c.loop-i.i c.loop-i.invariant (omega arith)

pub loop-i-preserved : goal.loop-i-preserved
loop-i-preserved c = agreed_more _ _ c.requires c.loop-i.i c.loop-i.invariant (omega arith) c.loop-i-test.true (omega arith)

pub returns-then-bytes-n : goal.returns-then-bytes-n
returns-then-bytes-n c = bytes_end _ _ c.requires c.loop-i.i c.loop-i.invariant c.loop-i-test.false (omega arith)
