-- `opmsg_dotted::leads` meets its contract.
-- Assumes nothing.
use Rattle.std.proofs.Common.{◌≡◌, length}
use mathlib.Core.Path.{refl, sym, ◌∙◌}
use native.Mathlib.Omega.{arith}
use borrow.Author.Tests.{eq-eqb}
use Rattle.opmsg_dotted.proofs.FirstName.{first_short, alike_more, alike_end, alike_all, alike_no_more}
use Rattle.opmsg_dotted.proofs.leads.Goals as goal

pub returns-then-text-n : goal.returns-then-text-n
returns-then-text-n c = sym (first_short _ _ c.if-text-n.true)

pub returns-then-not-within_name : goal.returns-then-not-within_name
returns-then-not-within_name c =
    let a = c.args in
    sym (c.loop-i.invariant ∙ alike_no_more a.text.now a.name.now c.loop-i.i (omega arith) (omega arith) (c.within_name.ensures.ends c.if-not-within_name.true))

pub loop-i-preserved : goal.loop-i-preserved
loop-i-preserved c =
    let a = c.args in
    let same = c.within_name.ensures.goes_on c.if-not-within_name.false in
    c.loop-i.invariant ∙ alike_more a.text.now a.name.now c.loop-i.i (omega arith) (omega arith) same.0 same.1

pub returns-then-n-text : goal.returns-then-n-text
returns-then-n-text c =
    rw (eq-eqb _ _ c.if-n-text.true) (sym (c.loop-i.invariant ∙ alike_end c.args.text.now c.args.name.now c.loop-i.i (omega arith) (omega arith)))

pub returns-else-n-text : goal.returns-else-n-text
returns-else-n-text c =
    let end : c.loop-i.i ≡ length c.args.name.now = omega arith in
    sym (c.loop-i.invariant ∙ alike_all c.args.text.now c.args.name.now c.loop-i.i (omega arith) (omega arith) ∙ rw end refl)
