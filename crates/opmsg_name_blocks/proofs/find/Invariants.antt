-- The loop's invariant: what stands before `low` comes before the text, and what stands from `high` on after it.
use Rattle.std.proofs.Common.{◌-◌}
use Rattle.opmsg_name_blocks.proofs.Table.{Narrowed}
use Rattle.opmsg_name_blocks.proofs.find.Given as goal

abbrev pub invariant-loop-low : goal.invariant-loop-low
invariant-loop-low l = Narrowed l.xs l.table l.m l.text l.low l.high

abbrev pub decreases-loop-low : goal.decreases-loop-low
decreases-loop-low l = l.high - l.low
