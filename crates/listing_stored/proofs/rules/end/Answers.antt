-- The checks in their order.
use Rattle.std.proofs.Common.{◌∙◌, refl, add-one}
use Rattle.wire.proofs.Outcome.{pass, stop, go_on, halt}
use Rattle.listing_stored.specs.Stored.{end}
use Rattle.listing_stored.proofs.Judging.{same_count, other_count}
use Rattle.listing_stored.proofs.rules.end.Goals as goal

pub returns-then-count-ne2-clause-l_value : goal.returns-then-count-ne2-clause-l_value
unfolding end
returns-then-count-ne2-clause-l_value c = stop 38 c.args.p.line _ (other_count c.count.ensures c.if-count-ne2.true)

pub returns-in_err-between-clause-l_value : goal.returns-in_err-between-clause-l_value
unfolding end
returns-in_err-between-clause-l_value c =
    let k = c.args.p.line in
    rw c.from_residual.ensures (pass 38 k _ (same_count c.count.ensures c.if-count-ne2.false) ∙ halt _ (rw c.field.ensures at (c.in_err-between.ensures k)))

pub returns-clause-l_value : goal.returns-clause-l_value
unfolding end
returns-clause-l_value c =
    let k = c.args.p.line in
    pass 38 k _ (same_count c.count.ensures c.if-count-ne2.false) ∙ go_on _ (rw c.field.ensures at (c.in_ok-between.ensures k)) ∙ rw add-one refl
