-- Each document that is passed is one more turn; a refusal of one is that of the run.
use Rattle.std.proofs.Common.{◌-◌, length, drop, sym, ◌∙◌, arith}
use Rattle.std.proofs.lemmas.Result.{err_from_is_err_and}
use lib.ListN.{length-take}
use Rattle.wire.proofs.Walk.{ends, goes_on, stops}
use Rattle.opmsg.specs.Sections.{next_document}
use Rattle.opmsg_documents.proofs.Turns.{past_framed, next_past, next_refused, run_turns}
use Rattle.opmsg_documents.proofs.documents.Goals as goal

pub returns-in_err-passed : goal.returns-in_err-passed
returns-in_err-passed c =
    let p = err_from_is_err_and c.from_residual.result c.from_residual.ensures.1 in
    let s = c.args.s.now in
    let inv = c.loop-i.invariant in
    rw (p.1, p.2)
    (λ turns l.
    sym (run_turns turns (length s) _ _ _ l (omega arith)
    ∙ inv.4 ∙ stops next_document c.args.at (length s) c.loop-i.i s _ c.loop-i-test.true (omega arith) inv.0 inv.2
    (next_refused _ _ _ c.loop-i.documents c.in_err-passed.ensures)))

pub overflow_add-i : goal.overflow_add-i
overflow_add-i c = let f = past_framed _ _ _ c.in_ok-passed.ensures in omega (arith, f.small)

pub loop-i-smaller : goal.loop-i-smaller
loop-i-smaller c = let f = past_framed _ _ _ c.in_ok-passed.ensures in omega (arith, f.low)

pub loop-i-preserved : goal.loop-i-preserved
loop-i-preserved c =
    let s = c.args.s.now in
    let i = c.loop-i.i in
    let inv = c.loop-i.invariant in
    let f = past_framed _ _ _ c.in_ok-passed.ensures in
    let part = length-take (length s - i) (drop i s) in (
      inv.0 - 1,
      omega (arith, f.fits, part),
      omega (arith, f.low, f.fits),
      omega (arith, f.low),
      inv.4 ∙ goes_on next_document c.args.at (length s) i s _ c.loop-i-test.true (omega arith) inv.0 inv.2 _ _ (next_past _ _ _ c.loop-i.documents c.in_ok-passed.ensures),
    )

pub returns : goal.returns
returns c =
    let s = c.args.s.now in
    let inv = c.loop-i.invariant in
    λ turns l.
    sym (run_turns turns (length s) _ _ _ l (omega arith) ∙ inv.4 ∙ ends next_document c.args.at (length s) c.loop-i.i s _ inv.0 c.loop-i-test.false)
