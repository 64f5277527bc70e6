-- The checks in their order.
use Rattle.std.proofs.Common.{◌∙◌, refl, add-one}
use Rattle.wire.proofs.Outcome.{pass, stop, go_on, halt}
use Rattle.listing_stored.specs.Stored.{bad}
use Rattle.listing_stored.proofs.Judging.{same_count, other_count}
use Rattle.listing_stored.proofs.rules.bad.Goals as goal

pub returns-then-count-ne4-clause-l_value : goal.returns-then-count-ne4-clause-l_value
unfolding bad
returns-then-count-ne4-clause-l_value c = stop 38 c.args.p.line _ (other_count c.count.ensures c.if-count-ne4.true)

pub returns-in_err-between-clause-l_value : goal.returns-in_err-between-clause-l_value
unfolding bad
returns-in_err-between-clause-l_value c =
    let k = c.args.p.line in
    rw (c.from_residual.ensures, c.requires.1)
    (pass 38 k _ (same_count c.count.ensures c.if-count-ne4.false) ∙ halt _ (rw c.field.ensures at (c.in_err-between.ensures k)))

pub returns-in_err-number-clause-l_value : goal.returns-in_err-number-clause-l_value
unfolding bad
returns-in_err-number-clause-l_value c =
    let k = c.args.p.line in
    rw (c.from_residual-in_err-number.ensures, c.requires.1)
    (pass 38 k _ (same_count c.count.ensures c.if-count-ne4.false)
    ∙ go_on _ (rw c.field.ensures at (c.in_ok-between.ensures k))
    ∙ halt _ (rw c.field-2.ensures at (c.in_err-number.ensures k)))

pub returns-in_err-number-2-clause-l_value : goal.returns-in_err-number-2-clause-l_value
unfolding bad
returns-in_err-number-2-clause-l_value c =
    let k = c.args.p.line in
    rw (c.from_residual-in_err-number-2.ensures, c.requires.1)
    (pass 38 k _ (same_count c.count.ensures c.if-count-ne4.false)
    ∙ go_on _ (rw c.field.ensures at (c.in_ok-between.ensures k))
    ∙ go_on _ (rw c.field-2.ensures at (c.in_ok-number.ensures k))
    ∙ halt _ (rw c.field-3.ensures at (c.in_err-number-2.ensures k)))

pub returns-clause-l_value : goal.returns-clause-l_value
unfolding bad
returns-clause-l_value c =
    let k = c.args.p.line in
    rw c.requires.1
    (pass 38 k _ (same_count c.count.ensures c.if-count-ne4.false)
    ∙ go_on _ (rw c.field.ensures at (c.in_ok-between.ensures k))
    ∙ go_on _ (rw c.field-2.ensures at (c.in_ok-number.ensures k))
    ∙ go_on _ (rw c.field-3.ensures at (c.in_ok-number-2.ensures k))
    ∙ rw add-one refl)
