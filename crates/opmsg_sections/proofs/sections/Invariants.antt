-- Each turn keeps of a section what the definition has of it.
use Rattle.std.proofs.Common.{◌-◌, length}
use Rattle.opmsg_sections.proofs.Gather.{Passing}
use Rattle.opmsg_sections.proofs.sections.Given as goal

abbrev pub invariant-loop-i : goal.invariant-loop-i
invariant-loop-i l = Passing l.e l.xs l.i l.body l.body_length l.entries l.used l.sequences l.elements

abbrev pub decreases-loop-i : goal.decreases-loop-i
decreases-loop-i l = length l.xs - l.i
