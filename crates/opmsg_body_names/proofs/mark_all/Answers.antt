use Rattle.std.proofs.Common.{length, ap, arith, rules}
use Rattle.opmsg_body_names.proofs.Elements.{reached_read, marking_none, marking_next, marking_all}
use Rattle.opmsg_body_names.proofs.mark_all.Goals as goal

pub loop-i-init : goal.loop-i-init
loop-i-init c = let h = c.told-marks in (marking_none _ _ c.requires (search rules), omega arith)

pub next-i-requires : goal.next-i-requires
next-i-requires c = (reached_read _ _ _ c.loop-i.invariant.0.reached c.loop-i-test.true, ap length c.name-text.ensures)

pub loop-i-preserved : goal.loop-i-preserved
loop-i-preserved c = (
  rw (c.mark.ensures.makes, c.name-text.ensures) (marking_next _ _ _ c.loop-i.invariant.0 c.loop-i-test.true _ c.next-i.ensures.is),
  omega (arith, c.loop-i.invariant.1),
)

pub returns : goal.returns
returns c = marking_all _ _ _ c.loop-i.invariant.0 c.loop-i-test.false
