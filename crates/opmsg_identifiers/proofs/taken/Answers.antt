use Rattle.std.proofs.Common.{sym, ◌∙◌}
use Rattle.opmsg_identifiers.proofs.Kept.{taken_shown}
use Rattle.opmsg_identifiers.proofs.taken.Goals as goal

pub returns-then-met : goal.returns-then-met
returns-then-met c =
    λ qs sequences h. sym (taken_shown h c.args.xs.now c.requires.2 c.args.text.now ∙ rw (rw c.elements-content.ensures at (sym c.met.ensures ∙ c.if-met.true)))

pub returns : goal.returns
returns c =
    λ qs sequences h. sym (taken_shown h c.args.xs.now c.requires.2 c.args.text.now
    ∙ rw (rw c.elements-content.ensures at (sym c.met.ensures ∙ c.if-met.false)) (sym (rw c.elements-content.ensures at c.followed.ensures)))
