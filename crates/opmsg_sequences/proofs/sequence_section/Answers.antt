-- Each way out has its tests, on the number that `word` answers.
use Rattle.std.proofs.Common.{◌≡◌, ℕ, ◌-◌, List, length, take, drop, sym, ◌∙◌, arith}
use borrow.Author.Tests.{lt-ltb, le-ltb, le-leb, lt-leb}
use Rattle.wire.specs.Outcome.{refuse, ◌>>=◌}
use Rattle.wire.specs.Bytes.{word}
use Rattle.wire.proofs.Bytes.{under_false}
use Rattle.wire.proofs.Parts.{rest_part}
use Rattle.opmsg.specs.Sections.{max_sequences, sequence_section}
use Rattle.opmsg_sequences.proofs.sequence_section.Goals as goal
use Rattle.opmsg_sequences.proofs.sequence_section.Goals.{then-under-via-then-under, then-under-via-else-under+then-xs-size}

-- the number in the part `&xs[1..]`
size : (w : ℕ) (xs : List ℕ) → w ≡ word (take (length xs - 1) (drop 1 xs)) → w ≡ word (drop 1 xs)
size w xs e = rw rest_part at e

pub returns-then-count-ge-MAX_SEQUENCES-clause-is : goal.returns-then-count-ge-MAX_SEQUENCES-clause-is
unfolding sequence_section ◌>>=◌ refuse max_sequences
returns-then-count-ge-MAX_SEQUENCES-clause-is c = rw c.at.ensures (λ p start k. rw (sequence_section, k.number_is, le-leb 16 c.args.count c.if-count-ge-MAX_SEQUENCES.true))

pub returns-then-xs-lt5-clause-is : goal.returns-then-xs-lt5-clause-is
unfolding sequence_section ◌>>=◌ refuse max_sequences
returns-then-xs-lt5-clause-is c =
    rw c.at-then-xs-lt5.ensures (λ p start k. rw (sequence_section, k.number_is, lt-leb 16 c.args.count c.if-count-ge-MAX_SEQUENCES.false, lt-ltb _ _ c.if-xs-lt5.true))

pub returns-then-under-clause-is : goal.returns-then-under-clause-is
unfolding sequence_section ◌>>=◌ refuse max_sequences
returns-then-under-clause-is c =
    let w = size _ c.args.xs.now c.word-w.ensures in
    rw c.at-then-under.ensures
    (λ p start k.
    elim c.then-under.branch [
      | then-under-via-then-under b ↦
          rw (sequence_section, k.number_is, lt-leb 16 c.args.count c.if-count-ge-MAX_SEQUENCES.false, le-ltb _ _ c.if-xs-lt5.false, ← w, ← c.under.ensures, b.if-under.true)
      | then-under-via-else-under+then-xs-size b ↦
          rw (sequence_section, k.number_is, lt-leb 16 c.args.count c.if-count-ge-MAX_SEQUENCES.false, le-ltb _ _ c.if-xs-lt5.false, ← w, ← c.under.ensures, b.if-under.false, lt-ltb _ _ b.if-xs-size.true)
    ])

pub sequence_named-requires : goal.sequence_named-requires
sequence_named-requires c = omega (arith, under_false 5 _ (sym c.under.ensures ∙ c.if-under.false))

pub returns-clause-is : goal.returns-clause-is
unfolding sequence_section ◌>>=◌ refuse max_sequences
returns-clause-is c p start k =
    let w = size _ c.args.xs.now c.word-w.ensures in
    rw (sequence_section, k.number_is, lt-leb 16 c.args.count c.if-count-ge-MAX_SEQUENCES.false, le-ltb _ _ c.if-xs-lt5.false, ← w, ← c.under.ensures, c.if-under.false, le-ltb _ _ c.if-xs-size.false)
    (c.sequence_named.ensures.is p k.elements_is)
