-- The checks in their order.
use Rattle.std.proofs.Common.{◌∙◌}
use Rattle.wire.proofs.Outcome.{pass, stop, go_on, halt}
use Rattle.listing_stored.specs.Stored.{big}
use Rattle.listing_stored.proofs.Judging.{same_count, other_count}
use Rattle.listing_stored.proofs.rules.big.Goals as goal

pub returns-then-not-v-clause-l_value : goal.returns-then-not-v-clause-l_value
unfolding big
returns-then-not-v-clause-l_value c = stop 38 c.args.p.line _ c.if-not-v.true

pub returns-then-count-ne3-clause-l_value : goal.returns-then-count-ne3-clause-l_value
unfolding big
returns-then-count-ne3-clause-l_value c =
    let k = c.args.p.line in
    pass 38 k _ c.if-not-v.false ∙ stop 38 k _ (other_count c.count.ensures c.if-count-ne3.true)

pub returns-in_err-between-clause-l_value : goal.returns-in_err-between-clause-l_value
unfolding big
returns-in_err-between-clause-l_value c =
    let k = c.args.p.line in
    rw (c.from_residual.ensures, c.requires.2)
    (pass 38 k _ c.if-not-v.false
    ∙ pass 38 k _ (same_count c.count.ensures c.if-count-ne3.false)
    ∙ halt _ (rw c.field.ensures at (c.in_err-between.ensures k)))

pub returns-in_err-size-clause-l_value : goal.returns-in_err-size-clause-l_value
unfolding big
returns-in_err-size-clause-l_value c =
    let k = c.args.p.line in
    rw (c.from_residual-in_err-size.ensures, c.requires.2)
    (pass 38 k _ c.if-not-v.false
    ∙ pass 38 k _ (same_count c.count.ensures c.if-count-ne3.false)
    ∙ go_on _ (rw c.field.ensures at (c.in_ok-between.ensures k))
    ∙ halt _ (rw c.field-2.ensures at (c.in_err-size.ensures k)))

pub returns-clause-l_value : goal.returns-clause-l_value
unfolding big
returns-clause-l_value c =
    let k = c.args.p.line in
    let past = c.past_message.ensures.size_value in
    rw (past, c.requires.2)
    (pass 38 k _ c.if-not-v.false
    ∙ pass 38 k _ (same_count c.count.ensures c.if-count-ne3.false)
    ∙ go_on _ (rw c.field.ensures at (c.in_ok-between.ensures k))
    ∙ go_on _ (rw c.field-2.ensures at (c.in_ok-size.ensures k)))
