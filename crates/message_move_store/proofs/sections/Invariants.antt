-- Each turn stores one section behind those before it.
use Rattle.message_move_store.proofs.Laid.{Laid}
use Rattle.message_move_store.proofs.sections.Given as goal

abbrev pub invariant-loop-entry : goal.invariant-loop-entry
invariant-loop-entry l = Laid l.s l.entries l.entry-index l.at l.fn.out l.out
