use Rattle.std.proofs.Common.{length, refl, ap, sym, ◌+◌, ◌∙◌, arith, rules}
use borrow.Author.Tests.{ltb-false}
use Rattle.opmsg_body_names.proofs.Elements.{reached_read, passed_none, passed_unmarked, passed_next, passed_all, passed_marks, flat_next, flat_all}
use Rattle.opmsg_body_names.proofs.body_names.Goals as goal
use Rattle.opmsg_body_names.proofs.body_names.Goals.{then-xs-i-eq-DOCUMENT, else-xs-i-eq-DOCUMENT}

pub loop-i-init : goal.loop-i-init
loop-i-init c = (0, passed_none _ _ c.requires.0 _ (search rules), λ _ text h. refl)

pub next-i-requires : goal.next-i-requires
next-i-requires c = (reached_read _ _ _ c.loop-i.invariant.1.reached c.loop-i-test.true, ap length c.name-text.ensures)

pub loop-i-preserved : goal.loop-i-preserved
loop-i-preserved c =
    let passed = c.loop-i.invariant.1 in
    let fresh = passed_unmarked _ _ c.loop-i.i _ passed _ (rw c.name-text.ensures at (sym c.mark.ensures.tells ∙ c.if-mark.false)) in (
      c.loop-i.invariant.0 + 1,
      rw (c.mark.ensures.makes, c.name-text.ensures) (passed_next _ _ _ _ passed c.loop-i-test.true _ c.next-i.ensures.is fresh),
      elim c.if-xs-i-eq-DOCUMENT.branch [
        | then-xs-i-eq-DOCUMENT w ↦ λ e. absurd (omega (arith, w.document-is, c.loop-i-test.true))
        | else-xs-i-eq-DOCUMENT w ↦ λ e. flat_next _ _ (c.loop-i.invariant.2 (omega (arith, w.document-is))) passed.reached.filled c.loop-i-test.true w.if-xs-i-eq-DOCUMENT.false _ c.next-i.ensures.is
      ],
    )

pub returns-clause-is : goal.returns-clause-is
returns-clause-is c = sym (passed_all _ _ _ _ c.loop-i.invariant.1 c.loop-i-test.false)

pub returns-clause-marked : goal.returns-clause-marked
returns-clause-marked c = passed_marks _ _ _ _ c.loop-i.invariant.1 c.loop-i-test.false

pub returns-clause-flat : goal.returns-clause-flat
returns-clause-flat c = λ e. flat_all _ _ (c.loop-i.invariant.2 (ltb-false _ _ e)) c.loop-i-test.false
