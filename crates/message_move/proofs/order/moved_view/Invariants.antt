-- Each turn gives one section more its place.
use Rattle.message_move.proofs.Placing.{Placing}
use Rattle.message_move.proofs.order.moved_view.Given as goal

abbrev pub invariant-loop-i : goal.invariant-loop-i
invariant-loop-i l = Placing l.used l.i l.at l.entries
