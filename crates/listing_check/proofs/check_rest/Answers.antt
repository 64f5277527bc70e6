-- Bytes without a newline are a wrong line, where they are many or the listing ends.
use Rattle.std.proofs.Common.{◌∙◌, sym, append-nil, refl, rules}
use Rattle.wire.proofs.Outcome.{halt}
use Rattle.listing_stored.specs.Inner.{limited, position_of}
use Rattle.listing_stored.proofs.Short.{long_refused}
use Rattle.listing_check.specs.Inner.{tell}
use Rattle.listing_check.proofs.Pieces.{refusal_is, rest_none, rest_some}
use Rattle.listing_check.proofs.check_rest.Goals as goal

pub returns-then-s-ge-LONG : goal.returns-then-s-ge-LONG
unfolding tell
returns-then-s-ge-LONG c =
    let a = c.args in
    λ later none. sym (halt _ (long_refused (limited a.v) a.s.now later (position_of a.p) c.if-s-ge-LONG.true c.requires))

pub returns-in_err-answer : goal.returns-in_err-answer
unfolding tell
returns-in_err-answer c =
    let a = c.args in
    let wrong = c.in_err-answer.field-0.0 in
    rw (refusal_is wrong c.from_residual.result c.from_residual.ensures.1 refl)
    (λ later none. rw c.in_err-answer.was at c.answer.ensures.is
    ∙ sym (rw (none (search rules), append-nil a.s.now) (rest_none (limited a.v) a.s.now (position_of a.p) (search rules))))

pub returns-then-is_empty : goal.returns-then-is_empty
unfolding tell
returns-then-is_empty c =
    let a = c.args in
    λ later none. rw c.in_ok-answer.was at c.answer.ensures.is
    ∙ sym (rw (none (search rules), append-nil a.s.now) (rest_none (limited a.v) a.s.now (position_of a.p) (search rules)))

pub returns : goal.returns
unfolding tell
returns c =
    let a = c.args in
    λ later none. sym (rw (none (search rules), append-nil a.s.now) (rest_some (limited a.v) a.s.now (position_of a.p) (search rules) c.requires))
