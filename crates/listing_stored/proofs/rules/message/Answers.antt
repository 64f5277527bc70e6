-- The checks in their order.
use Rattle.std.proofs.Common.{◌∙◌}
use Rattle.wire.proofs.Outcome.{pass, stop, go_on, halt}
use Rattle.listing_stored.specs.Stored.{message}
use Rattle.listing_stored.proofs.Judging.{same_count, other_count, told_right, told_wrong}
use Rattle.listing_stored.proofs.rules.message.Goals as goal

pub returns-then-count-ne8-clause-l_value : goal.returns-then-count-ne8-clause-l_value
unfolding message
returns-then-count-ne8-clause-l_value c = stop 38 c.args.p.line _ (other_count c.count.ensures c.if-count-ne8.true)

pub returns-in_err-between-clause-l_value : goal.returns-in_err-between-clause-l_value
unfolding message
returns-in_err-between-clause-l_value c =
    let k = c.args.p.line in
    rw (c.from_residual.ensures, c.requires.2)
    (pass 38 k _ (same_count c.count.ensures c.if-count-ne8.false)
    ∙ halt _ (rw c.field.ensures at (c.in_err-between.ensures k)))

pub returns-in_err-size-clause-l_value : goal.returns-in_err-size-clause-l_value
unfolding message
returns-in_err-size-clause-l_value c =
    let k = c.args.p.line in
    rw (c.from_residual-in_err-size.ensures, c.requires.2)
    (pass 38 k _ (same_count c.count.ensures c.if-count-ne8.false)
    ∙ go_on _ (rw c.field.ensures at (c.in_ok-between.ensures k))
    ∙ halt _ (rw c.field-2.ensures at (c.in_err-size.ensures k)))

pub returns-then-not-is_signed-clause-l_value : goal.returns-then-not-is_signed-clause-l_value
unfolding message
returns-then-not-is_signed-clause-l_value c =
    let k = c.args.p.line in
    rw c.requires.2
    (pass 38 k _ (same_count c.count.ensures c.if-count-ne8.false)
    ∙ go_on _ (rw c.field.ensures at (c.in_ok-between.ensures k))
    ∙ go_on _ (rw c.field-2.ensures at (c.in_ok-size.ensures k))
    ∙ told_wrong k _ c.is_signed.result _ c.if-not-is_signed.true (rw c.field-3.ensures at (c.is_signed.ensures k)))

pub returns-then-not-is_signed-2-clause-l_value : goal.returns-then-not-is_signed-2-clause-l_value
unfolding message
returns-then-not-is_signed-2-clause-l_value c =
    let k = c.args.p.line in
    rw c.requires.2
    (pass 38 k _ (same_count c.count.ensures c.if-count-ne8.false)
    ∙ go_on _ (rw c.field.ensures at (c.in_ok-between.ensures k))
    ∙ go_on _ (rw c.field-2.ensures at (c.in_ok-size.ensures k))
    ∙ told_right k _ c.is_signed.result _ c.if-not-is_signed.false (rw c.field-3.ensures at (c.is_signed.ensures k))
    ∙ told_wrong k _ c.is_signed-2.result _ c.if-not-is_signed-2.true (rw c.field-4.ensures at (c.is_signed-2.ensures k)))

pub returns-in_err-number-clause-l_value : goal.returns-in_err-number-clause-l_value
unfolding message
returns-in_err-number-clause-l_value c =
    let k = c.args.p.line in
    rw (c.from_residual-in_err-number.ensures, c.requires.2)
    (pass 38 k _ (same_count c.count.ensures c.if-count-ne8.false)
    ∙ go_on _ (rw c.field.ensures at (c.in_ok-between.ensures k))
    ∙ go_on _ (rw c.field-2.ensures at (c.in_ok-size.ensures k))
    ∙ told_right k _ c.is_signed.result _ c.if-not-is_signed.false (rw c.field-3.ensures at (c.is_signed.ensures k))
    ∙ told_right k _ c.is_signed-2.result _ c.if-not-is_signed-2.false (rw c.field-4.ensures at (c.is_signed-2.ensures k))
    ∙ halt _ (rw c.field-5.ensures at (c.in_err-number.ensures k)))

pub returns-in_err-between-2-clause-l_value : goal.returns-in_err-between-2-clause-l_value
unfolding message
returns-in_err-between-2-clause-l_value c =
    let k = c.args.p.line in
    rw (c.from_residual-in_err-between-2.ensures, c.requires.2)
    (pass 38 k _ (same_count c.count.ensures c.if-count-ne8.false)
    ∙ go_on _ (rw c.field.ensures at (c.in_ok-between.ensures k))
    ∙ go_on _ (rw c.field-2.ensures at (c.in_ok-size.ensures k))
    ∙ told_right k _ c.is_signed.result _ c.if-not-is_signed.false (rw c.field-3.ensures at (c.is_signed.ensures k))
    ∙ told_right k _ c.is_signed-2.result _ c.if-not-is_signed-2.false (rw c.field-4.ensures at (c.is_signed-2.ensures k))
    ∙ go_on _ (rw c.field-5.ensures at (c.in_ok-number.ensures k))
    ∙ halt _ (rw c.field-6.ensures at (c.in_err-between-2.ensures k)))

pub returns-in_err-between-3-clause-l_value : goal.returns-in_err-between-3-clause-l_value
unfolding message
returns-in_err-between-3-clause-l_value c =
    let k = c.args.p.line in
    rw (c.from_residual-in_err-between-3.ensures, c.requires.2)
    (pass 38 k _ (same_count c.count.ensures c.if-count-ne8.false)
    ∙ go_on _ (rw c.field.ensures at (c.in_ok-between.ensures k))
    ∙ go_on _ (rw c.field-2.ensures at (c.in_ok-size.ensures k))
    ∙ told_right k _ c.is_signed.result _ c.if-not-is_signed.false (rw c.field-3.ensures at (c.is_signed.ensures k))
    ∙ told_right k _ c.is_signed-2.result _ c.if-not-is_signed-2.false (rw c.field-4.ensures at (c.is_signed-2.ensures k))
    ∙ go_on _ (rw c.field-5.ensures at (c.in_ok-number.ensures k))
    ∙ go_on _ (rw c.field-6.ensures at (c.in_ok-between-2.ensures k))
    ∙ halt _ (rw c.field-7.ensures at (c.in_err-between-3.ensures k)))

pub returns-clause-l_value : goal.returns-clause-l_value
unfolding message
returns-clause-l_value c =
    let k = c.args.p.line in
    let past = c.past_message.ensures.size_value in
    rw (past, c.requires.2)
    (pass 38 k _ (same_count c.count.ensures c.if-count-ne8.false)
    ∙ go_on _ (rw c.field.ensures at (c.in_ok-between.ensures k))
    ∙ go_on _ (rw c.field-2.ensures at (c.in_ok-size.ensures k))
    ∙ told_right k _ c.is_signed.result _ c.if-not-is_signed.false (rw c.field-3.ensures at (c.is_signed.ensures k))
    ∙ told_right k _ c.is_signed-2.result _ c.if-not-is_signed-2.false (rw c.field-4.ensures at (c.is_signed-2.ensures k))
    ∙ go_on _ (rw c.field-5.ensures at (c.in_ok-number.ensures k))
    ∙ go_on _ (rw c.field-6.ensures at (c.in_ok-between-2.ensures k))
    ∙ go_on _ (rw c.field-7.ensures at (c.in_ok-between-3.ensures k)))
