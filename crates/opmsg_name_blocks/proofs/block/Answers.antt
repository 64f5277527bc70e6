use Rattle.std.proofs.Common.{length, ap, arith}
use Rattle.opmsg_element_names.proofs.Ordering.{name_without_zero}
use Rattle.opmsg_name_blocks.proofs.Blocks.{filling_none, filling_all, filling_read, filling_seen, filling_full, filling_more}
use Rattle.opmsg_name_blocks.proofs.block.Goals as goal

pub loop-i-init : goal.loop-i-init
loop-i-init c = let p = c.requires in filling_none _ _ _ _ p.1 p.2 p.4

pub find-requires : goal.find-requires
find-requires c = (c.loop-i.invariant.sorted, c.requires.3, rw c.name-text.ensures (name_without_zero _))

-- the name stands there already
pub returns-in_default-clause-clears : goal.returns-in_default-clause-clears
returns-in_default-clause-clears c =
    filling_seen _ _ _ _ _ _ _ _ c.requires.0 c.loop-i.invariant c.loop-i-test.true (rw c.name-text.ensures at (rw c.in_default.is at c.find.ensures))

pub next-after-requires : goal.next-after-requires
next-after-requires c = (filling_read _ _ _ _ _ _ _ _ c.requires.0 c.loop-i.invariant c.loop-i-test.true, ap length c.name-text.ensures)

pub loop-i-preserved-then-m-table : goal.loop-i-preserved-then-m-table
loop-i-preserved-then-m-table c =
    let k = c.loop-i.invariant in
    filling_more _ _ _ _ _ _ _ _ c.requires.0 k c.loop-i-test.true _ (rw c.name-text.ensures at c.in-Some.ensures) _ c.next-after.ensures.is
    (omega (arith, c.if-m-table.true, k.size_is)) _ c.insert.ensures.size c.insert.ensures.puts

pub loop-i-preserved : goal.loop-i-preserved
loop-i-preserved c =
    let k = c.loop-i.invariant in
    filling_full _ _ _ _ _ _ _ _ c.requires.0 k c.loop-i-test.true _ (rw c.name-text.ensures at c.in-Some.ensures) _ c.next-after.ensures.is (omega (arith, c.if-m-table.false, k.size_is))

pub returns-clause-clears : goal.returns-clause-clears
returns-clause-clears c = let p = c.requires in filling_all _ _ _ _ _ _ _ _ p.0 c.loop-i.invariant p.2 c.loop-i-test.false
