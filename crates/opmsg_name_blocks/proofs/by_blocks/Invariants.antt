-- The loop's invariant: the names before place s differ from all later ones before the bound.
use Rattle.std.proofs.Common.{◌-◌}
use Rattle.opmsg_name_blocks.specs.Inner.{Cleared}
use Rattle.opmsg_name_blocks.proofs.by_blocks.Given as goal

abbrev pub invariant-loop-s : goal.invariant-loop-s
invariant-loop-s l = Cleared l.xs l.s l.bound

abbrev pub decreases-loop-s : goal.decreases-loop-s
decreases-loop-s l = l.bound - l.s
