-- The checks, and the body.
use Rattle.std.proofs.Common.{◌≡◌, Err, sym, rules}
use Rattle.wire.specs.Outcome.{◌>>=◌}
use Rattle.message.specs.Inner.{decided}
use Rattle.message.proofs.Outputs.{decided_refused}
use Rattle.message_write.proofs.Written.{write_decided}
use Rattle.message_write.proofs.check.Goals as goal

pub returns-in_err-before_reading : goal.returns-in_err-before_reading
returns-in_err-before_reading c =
    let e : c.from_residual.result ≡ Err c.in_err-before_reading.field-0.0 = search rules in
    λ i j. rw e (sym (decided_refused _ (c.in_err-before_reading.ensures i j)))

pub returns-in_err-examine_body : goal.returns-in_err-examine_body
unfolding decided ◌>>=◌
returns-in_err-examine_body c =
    let a = c.args in
    let e : c.from_residual-in_err-examine_body.result ≡ Err c.in_err-examine_body.field-0.0 = search rules in
    λ i j. rw (e, write_decided a.e i j a.flags a.body.now a.room c.in_ok-before_reading.ensures c.ranges.flags.fits, ← c.in_err-examine_body.ensures)

pub returns : goal.returns
unfolding decided ◌>>=◌
returns c =
    let a = c.args in
    λ i j. rw (write_decided a.e i j a.flags a.body.now a.room c.in_ok-before_reading.ensures c.ranges.flags.fits, ← c.in_ok-examine_body.ensures)
