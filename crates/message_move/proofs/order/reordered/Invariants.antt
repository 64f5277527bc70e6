-- Each turn puts one sequence to its entry.
use Rattle.message_move.proofs.Spots.{Ordering}
use Rattle.message_move.proofs.order.reordered.Given as goal

abbrev pub invariant-loop-entry : goal.invariant-loop-entry
invariant-loop-entry l = Ordering l.fn.v l.behind l.entry-index l.count l.list
