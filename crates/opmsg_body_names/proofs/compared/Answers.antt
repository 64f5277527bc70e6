use Rattle.std.proofs.Common.{◌≡◌, ℕ, false, length, take, drop, ap, sym, ◌∙◌}
use lib.ListN.{length-replicate}
use Rattle.opmsg.specs.Names.{among, name_text, names_of}
use Rattle.opmsg_body_names.proofs.Elements.{reached_read, passed_none, passed_unmarked, passed_again, passed_next, passed_all, passed_marks}
use Rattle.opmsg_body_names.proofs.compared.Goals as goal
use Rattle.opmsg_body_names.proofs.compared.Goals.{then-mark+else-past+else-named, else-mark}

pub loop-i-init : goal.loop-i-init
loop-i-init c = passed_none _ _ c.requires.0 _ (length-replicate {A = ℕ} 32 0)

pub returns-then-named-clause-is : goal.returns-then-named-clause-is
returns-then-named-clause-is c =
    rw c.at.ensures (sym (passed_again _ _ c.loop-i.i _ c.loop-i.invariant c.loop-i-test.true (rw c.name-text.ensures at (sym c.named.ensures ∙ c.if-named.true))))

pub next-i-requires : goal.next-i-requires
next-i-requires c = (reached_read _ _ _ c.loop-i.invariant.reached c.loop-i-test.true, ap length c.name-text.ensures)

-- behind the branch the name is new
pub loop-i-preserved : goal.loop-i-preserved
loop-i-preserved c =
    let name_is = c.name-text.ensures in
    let fresh : among (take c.loop-i.k (names_of c.args.xs.now)) (name_text (drop c.loop-i.i c.args.xs.now)) ≡ false = elim c.if-mark.branch [
      | then-mark+else-past+else-named w ↦ rw name_is at (sym w.named.ensures ∙ w.if-named.false)
      | else-mark w ↦ passed_unmarked _ _ c.loop-i.i _ c.loop-i.invariant _ (rw name_is at (sym c.mark.ensures.tells ∙ w.if-mark.false))
    ] in
    rw (c.mark.ensures.makes, name_is) (passed_next _ _ _ _ c.loop-i.invariant c.loop-i-test.true _ c.next-i.ensures.is fresh)

pub returns-clause-is : goal.returns-clause-is
returns-clause-is c = sym (passed_all _ _ _ _ c.loop-i.invariant c.loop-i-test.false)

pub returns-clause-marked : goal.returns-clause-marked
returns-clause-marked c = passed_marks _ _ _ _ c.loop-i.invariant c.loop-i-test.false
