-- The loop's invariant: the block's first m names are in the table, and no name before place i is one of those.
use Rattle.std.proofs.Common.{◌-◌, length}
use Rattle.opmsg_name_blocks.proofs.Blocks.{Filling}
use Rattle.opmsg_name_blocks.proofs.block.Given as goal

abbrev pub invariant-loop-i : goal.invariant-loop-i
invariant-loop-i l = Filling (length l.initial.table) l.xs l.s l.bound l.table l.m l.i l.resume

abbrev pub decreases-loop-i : goal.decreases-loop-i
decreases-loop-i l = l.bound - l.i
