-- Its own checks, the body, and where both pass the view and the message.
use Rattle.std.proofs.Common.{◌≡◌, ◌∷◌, Err, sym, refl, rules, arith}
use mir.Facts.{to_z-of_z}
use Rattle.opmsg.proofs.Limits.{max_length_small}
use Rattle.message.specs.Message.{whole_length}
use Rattle.message.proofs.Outputs.{viewed_refused, output_refused, viewed_ok, output_ok}
use Rattle.message_write.proofs.Written.{write_refused, write_accepted}
use Rattle.message_write.proofs.write.Goals as goal

pub returns-in_err-before_reading : goal.returns-in_err-before_reading
returns-in_err-before_reading c =
    let e : c.from_residual.result ≡ Err c.in_err-before_reading.field-0.0 = search rules in
    let h = c.in_err-before_reading.ensures c.args.request_id c.args.response_to in
    record { shows = rw e (sym (viewed_refused _ h)); writes = sym (output_refused _ h _) }

pub returns-in_err-walk : goal.returns-in_err-walk
returns-in_err-walk c =
    let a = c.args in
    let e : c.from_residual-in_err-walk.result ≡ Err c.in_err-walk.field-0.0 = search rules in
    let h = write_refused a.e a.request_id a.response_to a.flags a.body.now _ c.in_ok-before_reading.ensures c.ranges.flags.fits (sym c.in_err-walk.ensures) in
    record { shows = rw e (sym (viewed_refused _ h)); writes = sym (output_refused _ h _) }

pub whole-size-requires : goal.whole-size-requires
unfolding whole_length
whole-size-requires c = omega (arith, c.in_ok-before_reading.ensures.limit, max_length_small)

pub written-requires : goal.written-requires
unfolding whole_length
written-requires c = (omega (arith, c.whole-size.ensures), omega (arith, c.whole-size.ensures, c.in_ok-before_reading.ensures.holds))

pub overflow_cast-body : goal.overflow_cast-body
unfolding whole_length
overflow_cast-body c = omega (arith, c.in_ok-before_reading.ensures.limit, max_length_small)

pub returns : goal.returns
unfolding whole_length
returns c =
    let a = c.args in
    let i = to_z-of_z c.ranges.request_id in
    let j = to_z-of_z c.ranges.response_to in
    let n : c.whole-size.result ≡ whole_length a.flags (0 ∷ a.body.now) = omega (arith, c.whole-size.ensures) in
    let h = write_accepted a.e a.request_id a.response_to a.flags a.body.now _ c.in_ok-before_reading.ensures c.ranges.flags.fits c.ranges.request_id c.ranges.response_to (sym c.in_ok-walk.ensures) in
    record { shows = rw (viewed_ok _ h) (rw (c.view.ensures, i, j, n) refl); writes = rw (output_ok _ h _) (rw (i, j) at c.written.ensures) }
