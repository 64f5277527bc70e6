-- The loop's invariant: the runs are the same up to word k.
use Rattle.std.proofs.Common.{◌≡◌, ◌*◌, take}
use Rattle.opmsg_element_names.proofs.common.Given as goal

abbrev pub invariant-loop-k : goal.invariant-loop-k
invariant-loop-k l = take (4 * l.k) l.a ≡ take (4 * l.k) l.b
