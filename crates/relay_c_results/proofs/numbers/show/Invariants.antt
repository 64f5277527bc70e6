-- Each turn stores the numbers of one entry more.
use Rattle.relay_c_results.proofs.Rows.{Listed}
use Rattle.relay_c_results.proofs.numbers.show.Given as goal

abbrev pub invariant-loop-i : goal.invariant-loop-i
invariant-loop-i l = Listed l.initial.out l.v.entries l.i l.out
