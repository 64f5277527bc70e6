-- Twelve bytes tell the version, and fewer are no first line.
use Rattle.std.proofs.Common.{append-nil, sym, arith}
use Rattle.listing_stored.specs.Inner.{limited}
use Rattle.listing_check.specs.Inner.{tell}
use Rattle.listing_check.proofs.Pieces.{refusal_is, first_on, first_none, first_short}
use Rattle.listing_check.proofs.check_first.Goals as goal

pub returns-in_err-v : goal.returns-in_err-v
unfolding tell
returns-in_err-v c =
    let none = c.in_err-v.ensures.ok_part in
    rw (refusal_is (record { line = 1 }) c.from_residual.result c.from_residual.ensures.1 (let e = rw none at c.in_err-v.ensures.value in cc))
    (λ later end. sym (first_none c.args.s.now later c.if-s-ge-FIRST_LINE.true (rw none at c.version.ensures)))

pub returns-in_ok-v : goal.returns-in_ok-v
unfolding tell
returns-in_ok-v c = (
  omega arith,
  c.if-s-ge-FIRST_LINE.true,
  omega (arith, c.start.ensures.line_value),
  λ later. rw c.start.ensures.result_value (first_on c.args.s.now later (limited c.in_ok-v.v) (rw c.in_ok-v.ensures.ok_part at c.version.ensures)),
)

pub returns-then-ended : goal.returns-then-ended
unfolding tell
returns-then-ended c =
    let s = c.args.s.now in
    λ later none. sym (rw (none c.if-ended.true, append-nil s) (first_short s c.if-s-ge-FIRST_LINE.false))
