-- Each turn stores one section behind those before it.
use Rattle.std.proofs.Common.{◌+◌, ◌≤◌, length, arith}
use Rattle.message_move_store.specs.Inner.{laid}
use Rattle.message_move_store.proofs.Laid.{laid_by, laid_by_all, laid_within, Laid, lays_none, lays_next}
use Rattle.message_move_store.proofs.sections.Goals as goal

pub loop-entry-init : goal.loop-entry-init
loop-entry-init c = lays_none c.args.s.now c.args.entries.now c.args.out.now (omega arith)

-- one section more
turn : (c : goal.After-slice_known-in-loop-entry-1) → Laid c.args.s.now c.args.entries.now (c.loop-entry.entry-index + 1) (c.loop-entry.at + length c.section_in-bytes.result.now) c.args.out.now c.put.new.out
    × (20 + length (laid_by c.args.s.now c.args.entries.now (c.loop-entry.entry-index + 1)) ≤ length c.args.out.now)
turn c =
    let s = c.args.s.now in
    let entries = c.args.entries.now in
    let k = c.loop-entry in
    let n = length entries in
    let within : length (laid_by s entries (k.entry-index + 1)) ≤ length (laid s entries) =
    rw (← laid_by_all s entries n (omega arith)) (laid_within s entries (k.entry-index + 1) n (omega arith)) in
    let fits : 20 + length (laid_by s entries (k.entry-index + 1)) ≤ length c.args.out.now = omega (arith, within) in
    (rw c.put.ensures (lays_next s entries c.args.out.now (omega arith) k.entry-index k.at k.out k.invariant (omega arith) fits _ c.section_in-bytes.ensures), fits)

pub overflow_add-at : goal.overflow_add-at
overflow_add-at c = let t = turn c in omega (arith, t.0.0, t.1)

pub loop-entry-preserved : goal.loop-entry-preserved
loop-entry-preserved c = (turn c).0

pub returns-clause-stores : goal.returns-clause-stores
returns-clause-stores c =
    let k = c.loop-entry in
    rw (← laid_by_all c.args.s.now c.args.entries.now k.entry-index (omega arith)) k.invariant.1

pub returns-clause-ends : goal.returns-clause-ends
returns-clause-ends c =
    let k = c.loop-entry in
    rw (← laid_by_all c.args.s.now c.args.entries.now k.entry-index (omega arith)) k.invariant.0
