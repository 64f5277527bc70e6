use Rattle.std.proofs.Common.{◌≡◌, Err, sym, ◌∙◌, rules}
use Rattle.opmsg.specs.Names.{distinct}
use Rattle.opmsg_identifiers.proofs.Kept.{without_sequences, absent, repeated, different}
use Rattle.opmsg_names.proofs.distinct_names.Goals as goal

pub returns-then-c-eq0 : goal.returns-then-c-eq0
returns-then-c-eq0 c = λ qs s. rw c.at.ensures (sym (absent s c.args.xs.now c.requires.2 _ c.if-c-eq0.true))

pub returns-in_err-nested : goal.returns-in_err-nested
returns-in_err-nested c =
    let e : c.from_residual.result ≡ Err c.in_err-nested.field-0.0 = search rules in
    λ qs s. rw e (sym (repeated s c.args.xs.now c.requires.2 _ c.if-c-eq0.false (sym (rw c.elements-content.ensures at c.in_err-nested.ensures.is))))

pub returns-then-c-eq0-2 : goal.returns-then-c-eq0-2
unfolding distinct
returns-then-c-eq0-2 c =
    λ qs s. sym (rw (without_sequences s c.args.xs.now c.if-c-eq0-2.true) at (different s c.args.xs.now c.requires.2 c.args.end c.if-c-eq0.false
    (sym (rw c.elements-content.ensures at c.in_ok-nested.ensures.is))))

pub returns : goal.returns
returns c =
    λ qs s. rw c.elements-content.ensures at c.identifiers_differ.ensures
    ∙ sym (different s c.args.xs.now c.requires.2 _ c.if-c-eq0.false (sym (rw c.elements-content.ensures at c.in_ok-nested.ensures.is)))
