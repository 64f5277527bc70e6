use Rattle.std.proofs.Common.{List, sym, ap, ◌∙◌}
use Rattle.opmsg.specs.Names.{Name, among, texts}
use Rattle.opmsg_identifiers.proofs.Table.{none_left, left_other, identified_next}
use Rattle.opmsg_identifiers.proofs.identified.Goals as goal
use Rattle.opmsg_identifiers.proofs.identified.Goals.{in-Sequence+else-same, in_default}

pub returns-then-same : goal.returns-then-same
returns-then-same c =
    let a = c.args in
    sym (c.loop-entry.invariant
    ∙ identified_next a.xs.now a.entries.now c.loop-entry.entry-index c.loop-entry-test.true c.in-Sequence.is a.text.now
    ∙ rw (← c.at_range.ensures, ← c.same.ensures, c.if-same.true))

pub loop-entry-preserved : goal.loop-entry-preserved
loop-entry-preserved c =
    let a = c.args in
    let i = c.loop-entry.entry-index in
    let h = c.loop-entry-test.true in
    c.loop-entry.invariant
    ∙ elim c.match-entry.branch [
      | in-Sequence+else-same w ↦ identified_next a.xs.now a.entries.now i h w.in-Sequence.is a.text.now ∙ rw (← w.at_range.ensures, ← w.same.ensures, w.if-same.false)
      | in_default w ↦ ap (λ (ns : List Name). among (texts ns) a.text.now) (left_other a.xs.now a.entries.now i h w.in_default.not-Sequence)
    ]

pub returns : goal.returns
unfolding texts among
returns c =
    let a = c.args in
    sym (c.loop-entry.invariant ∙ rw (none_left a.xs.now a.entries.now c.loop-entry.entry-index c.loop-entry-test.false))
