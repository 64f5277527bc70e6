use Rattle.std.proofs.Common.{◌≡◌, false, ◌||◌, sym, ◌∙◌}
use Rattle.opmsg.specs.Names.{among, identifiers, texts, names_of}
use Rattle.opmsg_body_names.proofs.Texts.{neither}
use Rattle.opmsg_body_names.proofs.Distinct.{met_none, met_base}
use Rattle.opmsg_identifiers.proofs.Table.{first_identifiers, differ_all, differ_other, differ_again, differ_unmarked, differ_passing, differ_new}
use Rattle.opmsg_names.proofs.identifiers_differ.Goals as goal
use Rattle.opmsg_names.proofs.identifiers_differ.Goals.{in-Sequence+else-mark+else-leads, else-mark-via-then-mark+else-met, else-mark-via-else-mark, in_default}

pub loop-k-init : goal.loop-k-init
unfolding identifiers
loop-k-init c = met_none _ _ _ _ c.requires.1

pub returns-then-met : goal.returns-then-met
returns-then-met c =
    rw c.at.ensures (sym (differ_again c.args.xs.now _ _ _ _ c.loop-k.invariant c.loop-k-test.true c.in-Sequence.is _ c.at_range-text.ensures (sym c.met.ensures ∙ c.if-met.true)))

-- behind the branch the identifier is new
pub leads-requires : goal.leads-requires
leads-requires c =
    let m = c.loop-k.invariant in
    let a = c.args in
    let text = c.at_range-text.result.now in
    let new : (among (names_of a.elements.now) text || among (texts (first_identifiers a.xs.now a.entries.now c.loop-k.k)) text) ≡ false = elim c.else-mark.branch [
      | else-mark-via-then-mark+else-met w ↦ sym w.met.ensures ∙ w.if-met.false
      | else-mark-via-else-mark w ↦ differ_unmarked a.xs.now _ _ _ _ m c.loop-k-test.true c.in-Sequence.is _ c.at_range-text.ensures (sym c.mark.ensures.tells ∙ w.if-mark.false)
    ] in
    (c.requires.0, rw c.mark.ensures.makes (met_base _ _ _ _ _ m _), c.requires.2, (neither _ _ new).0)

pub returns-then-leads : goal.returns-then-leads
returns-then-leads c =
    let m = c.loop-k.invariant in
    let a = c.args in
    let text = c.at_range-text.result.now in
    let new : (among (names_of a.elements.now) text || among (texts (first_identifiers a.xs.now a.entries.now c.loop-k.k)) text) ≡ false = elim c.else-mark.branch [
      | else-mark-via-then-mark+else-met w ↦ sym w.met.ensures ∙ w.if-met.false
      | else-mark-via-else-mark w ↦ differ_unmarked a.xs.now _ _ _ _ m c.loop-k-test.true c.in-Sequence.is _ c.at_range-text.ensures (sym c.mark.ensures.tells ∙ w.if-mark.false)
    ] in
    rw c.at-then-leads.ensures (sym (differ_passing a.xs.now _ _ _ _ m c.loop-k-test.true c.in-Sequence.is _ c.at_range-text.ensures new (sym c.leads.ensures ∙ c.if-leads.true)))

pub loop-k-preserved : goal.loop-k-preserved
loop-k-preserved c =
    let m = c.loop-k.invariant in
    let xs = c.args.xs.now in
    elim c.match-entry.branch [
      | in-Sequence+else-mark+else-leads w ↦
          rw (w.marks-is, w.mark.ensures.makes) (differ_new xs _ _ _ _ m c.loop-k-test.true w.in-Sequence.is _ w.at_range-text.ensures
          (elim w.else-mark.branch [
            | else-mark-via-then-mark+else-met v ↦ sym v.met.ensures ∙ v.if-met.false
            | else-mark-via-else-mark v ↦ differ_unmarked xs _ _ _ _ m c.loop-k-test.true w.in-Sequence.is _ w.at_range-text.ensures (sym w.mark.ensures.tells ∙ v.if-mark.false)
          ])
          (sym w.leads.ensures ∙ w.if-leads.false))
      | in_default w ↦ rw w.marks-is (differ_other xs _ _ _ _ m c.loop-k-test.true w.in_default.not-Sequence)
    ]

pub returns : goal.returns
returns c = sym (differ_all c.args.xs.now _ _ _ _ c.loop-k.invariant c.loop-k-test.false)
