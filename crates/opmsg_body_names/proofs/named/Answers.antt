use Rattle.std.proofs.Common.{length, ap, sym, ◌∙◌, arith}
use Rattle.opmsg_body_names.proofs.Elements.{reached_read, sought_none, sought_end, sought_all, sought_found, sought_next}
use Rattle.opmsg_body_names.proofs.named.Goals as goal

pub loop-i-init : goal.loop-i-init
loop-i-init c = sought_none _ _ _ c.requires

pub returns-then-left-eq0 : goal.returns-then-left-eq0
returns-then-left-eq0 c = sym (sought_all _ _ _ _ _ c.loop-i.invariant c.if-left-eq0.true)

pub returns-then-same : goal.returns-then-same
returns-then-same c =
    sym (sought_found _ _ _ _ _ c.loop-i.invariant c.loop-i-test.true (omega arith) (rw c.name-other.ensures at (sym c.same.ensures ∙ c.if-same.true)))

pub next-i-requires : goal.next-i-requires
next-i-requires c = (reached_read _ _ _ c.loop-i.invariant.reached c.loop-i-test.true, ap length c.name-other.ensures)

pub loop-i-preserved : goal.loop-i-preserved
loop-i-preserved c =
    sought_next _ _ _ _ _ c.loop-i.invariant c.loop-i-test.true (omega arith) _ c.next-i.ensures.is (rw c.name-other.ensures at (sym c.same.ensures ∙ c.if-same.false))

pub returns : goal.returns
returns c = sym (sought_end _ _ _ _ _ c.loop-i.invariant c.loop-i-test.false)
