-- The loop's invariant: the body is that of the entries from this one on.
use Rattle.std.proofs.Common.{◌≡◌, length}
use Rattle.opmsg_view.proofs.Counting.{body_from}
use Rattle.opmsg_view.proofs.body.Given as goal

abbrev pub invariant-loop-entry : goal.invariant-loop-entry
invariant-loop-entry l = (length l.entry-items ≡ 17) × (body_from l.entry-items 0 ≡ body_from l.entry-items l.entry-index)
