-- The line by its word.
use Rattle.std.proofs.Common.{◌∙◌}
use Rattle.listing_lines.specs.Words
use Rattle.listing_stored.specs.Inner.{limited, position_of}
use Rattle.listing_stored.proofs.Judging.{word_is, entry_message, entry_big, entry_bad, entry_none}
use Rattle.listing_stored.proofs.rules.entry.Goals as goal

pub returns-then-eq-clause-l_value : goal.returns-then-eq-clause-l_value
returns-then-eq-clause-l_value c =
    let a = c.args in
    entry_message (limited a.v) (position_of a.p) a.l.now (word_is Words.msg c.field-word.ensures c.as_slice.ensures c.eq.ensures c.if-eq.true)
    ∙ c.message.ensures.l_value

pub returns-then-eq-2-clause-l_value : goal.returns-then-eq-2-clause-l_value
returns-then-eq-2-clause-l_value c =
    let a = c.args in
    entry_big (limited a.v) (position_of a.p) a.l.now
    (word_is Words.msg c.field-word.ensures c.as_slice.ensures c.eq.ensures c.if-eq.false)
    (word_is Words.big c.field-word.ensures c.as_slice-2.ensures c.eq-2.ensures c.if-eq-2.true)
    ∙ c.big.ensures.l_value

pub returns-then-eq-3-clause-l_value : goal.returns-then-eq-3-clause-l_value
returns-then-eq-3-clause-l_value c =
    let a = c.args in
    entry_bad (limited a.v) (position_of a.p) a.l.now
    (word_is Words.msg c.field-word.ensures c.as_slice.ensures c.eq.ensures c.if-eq.false)
    (word_is Words.big c.field-word.ensures c.as_slice-2.ensures c.eq-2.ensures c.if-eq-2.false)
    (word_is Words.bad c.field-word.ensures c.as_slice-3.ensures c.eq-3.ensures c.if-eq-3.true)
    ∙ c.bad.ensures.l_value

pub returns-clause-l_value : goal.returns-clause-l_value
returns-clause-l_value c =
    let a = c.args in
    entry_none (limited a.v) (position_of a.p) a.l.now
    (word_is Words.msg c.field-word.ensures c.as_slice.ensures c.eq.ensures c.if-eq.false)
    (word_is Words.big c.field-word.ensures c.as_slice-2.ensures c.eq-2.ensures c.if-eq-2.false)
    (word_is Words.bad c.field-word.ensures c.as_slice-3.ensures c.eq-3.ensures c.if-eq-3.false)
