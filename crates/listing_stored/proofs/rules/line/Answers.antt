-- What may stand at the place.
use Rattle.std.proofs.Common.{◌∙◌}
use Rattle.listing_lines.specs.Words
use Rattle.listing_stored.specs.Inner.{limited, position_of}
use Rattle.listing_stored.proofs.Judging.{word_is, judged_ended, judged_end, judged_bad, judged_entry_lem, judged_far}
use Rattle.listing_stored.proofs.Entries.{far}
use Rattle.listing_stored.proofs.rules.line.Goals as goal

pub returns-then-p-clause-l_value : goal.returns-then-p-clause-l_value
returns-then-p-clause-l_value c = let a = c.args in judged_ended (limited a.v) (position_of a.p) a.l.now c.if-p.true

pub returns-then-eq-clause-l_value : goal.returns-then-eq-clause-l_value
returns-then-eq-clause-l_value c =
    let a = c.args in
    judged_end (limited a.v) (position_of a.p) a.l.now c.if-p.false (word_is Words.end c.field.ensures c.as_slice.ensures c.eq.ensures c.if-eq.true)
    ∙ c.end.ensures.l_value

pub returns-then-p-2-clause-l_value : goal.returns-then-p-2-clause-l_value
returns-then-p-2-clause-l_value c =
    let a = c.args in
    judged_bad (limited a.v) (position_of a.p) a.l.now c.if-p.false (word_is Words.end c.field.ensures c.as_slice.ensures c.eq.ensures c.if-eq.false) c.if-p-2.true

pub returns-then-p-3-clause-l_value : goal.returns-then-p-3-clause-l_value
returns-then-p-3-clause-l_value c =
    let a = c.args in
    judged_far (limited a.v) (position_of a.p) a.l.now c.if-p.false (word_is Words.end c.field.ensures c.as_slice.ensures c.eq.ensures c.if-eq.false) c.if-p-2.false
    (far a.p c.if-p-3.true)

pub returns-clause-l_value : goal.returns-clause-l_value
returns-clause-l_value c =
    let a = c.args in
    judged_entry_lem (limited a.v) (position_of a.p) a.l.now c.if-p.false (word_is Words.end c.field.ensures c.as_slice.ensures c.eq.ensures c.if-eq.false) c.if-p-2.false
    ∙ c.entry.ensures.l_value
