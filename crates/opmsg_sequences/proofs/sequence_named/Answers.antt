-- Each way out is told what is found of the identifier.
use Rattle.std.proofs.Common.{◌≡◌, ◌+◌, Err, sym, ◌∙◌, arith}
use Rattle.std.proofs.lemmas.Result.{err_from_is_err_and}
use Rattle.std.proofs.lemmas.Grind.{common_steps}
use Rattle.wire.specs.Walk.{Step}
use Rattle.refusal.specs.Told.{told}
use Rattle.refusal.proofs.Mapped.{same_ok, err_behind}
use Rattle.opmsg.specs.Sections.{Parts}
use Rattle.opmsg_sequences.specs.Inner.{unnamed}
use Rattle.opmsg_sequences.proofs.Identifier.{empty, text, misread}
use Rattle.opmsg_sequences.proofs.sequence_named.Goals as goal

pub returns-in_err-n-clause-is : goal.returns-in_err-n-clause-is
returns-in_err-n-clause-is c =
    let r = err_from_is_err_and c.from_residual.result c.from_residual.ensures.1 in
    let b = err_behind _ c.far_ended.result c.map_err.result c.map_err.ensures.cases _ c.in_err-n.was in
    let x : told {A = Step Parts} (Err c.in_err-n.field-0.0) ≡ unnamed (c.args.at + 5) b.0 = grind (arith, common_steps) in
    rw (r.1, r.2) (λ p k. x ∙ sym (misread _ _ c.requires.0 c.requires.1 _ c.far_ended.ensures c.args.at p b.0 b.1))

pub returns-then-n-eq0-clause-is : goal.returns-then-n-eq0-clause-is
returns-then-n-eq0-clause-is c =
    let i = same_ok _ c.far_ended.result c.map_err.result c.map_err.ensures.cases _ c.in_ok-n.was in
    rw c.at.ensures (λ p k. sym (empty _ _ c.requires.0 c.requires.1 _ c.far_ended.ensures c.args.at p _ i c.if-n-eq0.true))

pub returns-clause-is : goal.returns-clause-is
returns-clause-is c p k =
    let i = same_ok _ c.far_ended.result c.map_err.result c.map_err.ensures.cases _ c.in_ok-n.was in
    c.sequence_documents.ensures.is p k ∙ sym (text _ _ c.requires.0 c.requires.1 _ c.far_ended.ensures c.args.at p _ i c.if-n-eq0.false)
