-- It is what the run of its documents is.
use Rattle.std.proofs.Common.{◌≡◌, ◌+◌, ◌-◌, drop, arith}
use Rattle.std.proofs.lemmas.Result.{err_from_is_err_and}
use lib.ListN.{length-take}
use Rattle.wire.specs.Outcome.{◌>>=◌}
use Rattle.opmsg.specs.Sections.{sequence_run}
use Rattle.opmsg_sequences.proofs.sequence_documents.Goals as goal

pub returns-in_err-counted-clause-is : goal.returns-in_err-counted-clause-is
unfolding sequence_run ◌>>=◌
returns-in_err-counted-clause-is c =
    let r = err_from_is_err_and c.from_residual.result c.from_residual.ensures.1 in
    let size = c.args.size in
    let start = c.args.n + 6 in
    let e : 1 + size - start ≡ size - (c.args.n + 5) = omega arith in
    rw (r.1, r.2) (λ p k. rw (sequence_run, k, ← e, ← c.in_err-counted.ensures size (omega (arith, length-take (1 + size - start) (drop start c.args.xs.now)))))

pub returns-clause-is : goal.returns-clause-is
unfolding sequence_run ◌>>=◌
returns-clause-is c p k =
    let size = c.args.size in
    let start = c.args.n + 6 in
    let e : 1 + size - start ≡ size - (c.args.n + 5) = omega arith in
    rw (sequence_run, k, ← e, ← c.in_ok-counted.ensures size (omega (arith, length-take (1 + size - start) (drop start c.args.xs.now))))
