-- In the loop, each element that is read leaves a turn less; an element is what its head is, and what the document in it is.
use Rattle.std.proofs.Common.{◌≡◌, ℕ, ◌+◌, ◌-◌, drop, sym, ◌∙◌, arith}
use Rattle.std.proofs.lemmas.Result.{err_from_is_err_and}
use native.Mathlib.Nat.{le_of_lt}
use lib.ListN.{length-take}
use borrow.Author.Tests.{eq-eqb, ne_eqb}
use Rattle.wire.specs.Outcome.{refuse, ◌>>=◌}
use Rattle.wire.proofs.Outcome.{go_on, halt}
use Rattle.wire.proofs.Walk.{ends, goes_on, stops}
use Rattle.bson_elements.specs.Element.{element}
use Rattle.bson.specs.Document.{document_at}
use Rattle.bson.proofs.Frame.{document_framed}
use Rattle.bson.proofs.Levels.{few, no_level, shut, opens, plain_element, embedded_element, scoped_element, long}
use Rattle.bson.proofs.documents.+document_at_element.Goals as goal

pub document_at-returns-then-levels-eq0 : goal.document_at-returns-then-levels-eq0
document_at-returns-then-levels-eq0 t c = rw c.at.ensures (no_level _ _ _ _ c.if-levels-eq0.true)

pub document_at-returns-in_err-size : goal.document_at-returns-in_err-size
document_at-returns-in_err-size t c =
    let p = err_from_is_err_and c.from_residual.result c.from_residual.ensures.1 in
    rw (p.1, p.2) (shut _ _ _ _ c.if-levels-eq0.false _ _ c.in_err-size.ensures)

pub document_at-overflow_sub-last : goal.document_at-overflow_sub-last
document_at-overflow_sub-last t c =
    let o = opens _ _ c.args.count _ c.if-levels-eq0.false _ c.in_ok-size.ensures in
    omega (arith, o.0.low)

pub document_at-loop-i-init : goal.document_at-loop-i-init
document_at-loop-i-init t c =
    let o = opens _ _ c.args.count _ c.if-levels-eq0.false _ c.in_ok-size.ensures in
    (c.in_ok-size.size, omega arith, omega (arith, o.0.low), omega (arith, o.0.low, o.0.fits), omega arith, o.1)

pub document_at-returns-in_err-passed : goal.document_at-returns-in_err-passed
document_at-returns-in_err-passed t c =
    let p = err_from_is_err_and c.from_residual-in_err-passed.result c.from_residual-in_err-passed.ensures.1 in
    let inv = c.loop-i.invariant in
    rw (p.1, p.2, inv.5) (sym (halt _ (stops _ _ _ _ _ _ c.loop-i-test.true (le_of_lt inv.3) inv.0 inv.4 (sym c.in_err-passed.ensures.is))))

pub document_at-loop-i-preserved : goal.document_at-loop-i-preserved
document_at-loop-i-preserved t c =
    let s = c.args.s.now in
    let inv = c.loop-i.invariant in
    let last = c.in_ok-size.size - 1 in
    let i = c.loop-i.i in
    let size = c.in_ok-passed.ensures.inside in
    let part = length-take (last - i) (drop i s) in (
      inv.0 - 1,
      omega (arith, size),
      omega (arith, size, part),
      inv.3,
      omega (arith, size),
      rw (inv.5, goes_on _ _ _ _ _ _ c.loop-i-test.true (le_of_lt inv.3) inv.0 inv.4 c.in_ok-passed.passed.size c.in_ok-passed.passed.count (sym c.in_ok-passed.ensures.is)),
    )

pub document_at-returns : goal.document_at-returns
document_at-returns t c =
    let inv = c.loop-i.invariant in
    rw inv.5 (sym (go_on _ (ends _ _ _ _ _ _ inv.0 c.loop-i-test.false)))

pub element-returns-in_err-start-clause-is : goal.element-returns-in_err-start-clause-is
unfolding element
element-returns-in_err-start-clause-is t c =
    let p = err_from_is_err_and c.from_residual.result c.from_residual.ensures.1 in
    rw (p.1, p.2) (sym (halt _ (sym c.in_err-start.ensures.is)))

pub element-overflow_add-count : goal.element-overflow_add-count
element-overflow_add-count t c = omega (arith, few _ _ _ _ c.in_ok-start.ensures.is)

pub element-returns-in-Plain-clause-is : goal.element-returns-in-Plain-clause-is
element-returns-in-Plain-clause-is t c = plain_element (document_at c.args.levels) _ _ _ _ _ (rw c.in-Plain.is at c.in_ok-start.ensures.is)

pub element-returns-in_err-inner-in-Embedded-clause-is : goal.element-returns-in_err-inner-in-Embedded-clause-is
element-returns-in_err-inner-in-Embedded-clause-is t c =
    let p = err_from_is_err_and c.from_residual-in_err-inner-in-Embedded.result c.from_residual-in_err-inner-in-Embedded.ensures.1 in
    rw (p.1, p.2) (sym (halt _ (sym c.in_err-inner-in-Embedded.ensures)) ∙ embedded_element (document_at c.args.levels) _ _ _ _ (rw c.in-Embedded.is at c.in_ok-start.ensures.is))

pub element-overflow_add-result-in-Embedded : goal.element-overflow_add-result-in-Embedded
element-overflow_add-result-in-Embedded t c =
    let h = c.in_ok-start.ensures.inside in
    let f = document_framed _ _ _ _ _ (sym c.in_ok-inner-in-Embedded.ensures) in
    omega (arith, h.1, f.fits, long (document_at c.args.levels) c.args.at c.args.s.now c.args.count _ h.1)

pub element-returns-in_ok-inner-in-Embedded-clause-is : goal.element-returns-in_ok-inner-in-Embedded-clause-is
element-returns-in_ok-inner-in-Embedded-clause-is t c =
    sym (go_on _ (sym c.in_ok-inner-in-Embedded.ensures)) ∙ embedded_element (document_at c.args.levels) _ _ _ _ (rw c.in-Embedded.is at c.in_ok-start.ensures.is)

pub element-returns-in_ok-inner-in-Embedded-clause-inside : goal.element-returns-in_ok-inner-in-Embedded-clause-inside
element-returns-in_ok-inner-in-Embedded-clause-inside t c =
    let h = c.in_ok-start.ensures.inside in
    let f = document_framed _ _ _ _ _ (sym c.in_ok-inner-in-Embedded.ensures) in
    omega (arith, h.0, h.1, f.fits, long (document_at c.args.levels) c.args.at c.args.s.now c.args.count _ h.1)

pub element-returns-in_err-inner-in-Scoped-clause-is : goal.element-returns-in_err-inner-in-Scoped-clause-is
element-returns-in_err-inner-in-Scoped-clause-is t c =
    let p = err_from_is_err_and c.from_residual-in_err-inner-in-Scoped.result c.from_residual-in_err-inner-in-Scoped.ensures.1 in
    rw (p.1, p.2)
    (sym (halt _ (halt _ (sym c.in_err-inner-in-Scoped.ensures))) ∙ scoped_element (document_at c.args.levels) _ _ _ _ _ _ (rw c.in-Scoped.is at c.in_ok-start.ensures.is))

pub element-overflow_add-from : goal.element-overflow_add-from
element-overflow_add-from t c =
    let s = c.args.s.now in
    let h = rw c.in-Scoped.is at c.in_ok-start.ensures.inside in
    let f = document_framed _ _ _ _ _ (sym c.in_ok-inner-in-Scoped.ensures) in
    omega (arith, h.1, h.2, f.fits, length-take {A = ℕ})

-- the document in it, and whether it ends where the value does
pub element-returns-then-from-inner-clause-is : goal.element-returns-then-from-inner-clause-is
unfolding ◌>>=◌ refuse
element-returns-then-from-inner-clause-is t c =
    let k : c.in-Scoped.from + c.in_ok-inner-in-Scoped.inner.size ≡ c.in-Scoped.size → ⊥ = λ o. omega arith in
    let e = scoped_element (document_at c.args.levels) _ _ _ _ _ _ (rw c.in-Scoped.is at c.in_ok-start.ensures.is) in
    rw c.at.ensures (rw (← c.in_ok-inner-in-Scoped.ensures, ne_eqb _ _ k) at e)

pub element-returns-else-from-inner-clause-is : goal.element-returns-else-from-inner-clause-is
unfolding ◌>>=◌ refuse
element-returns-else-from-inner-clause-is t c =
    let k : c.in-Scoped.from + c.in_ok-inner-in-Scoped.inner.size ≡ c.in-Scoped.size = omega arith in
    let e = scoped_element (document_at c.args.levels) _ _ _ _ _ _ (rw c.in-Scoped.is at c.in_ok-start.ensures.is) in
    rw (← c.in_ok-inner-in-Scoped.ensures, eq-eqb _ _ k) at e
