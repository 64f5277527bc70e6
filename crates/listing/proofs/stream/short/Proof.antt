-- `listing::stream::short` meets its contract: each way out has its tests.
-- Assumes nothing.
use borrow.Author.Rules.{rules}
use borrow.Author.Tests.{lt-ltb, le-ltb, le-leb, lt-leb}
use Rattle.wire.specs.Bytes.{word_at}
use Rattle.listing.specs.Next.{buffer_length, short}
use Rattle.listing.proofs.stream.short.Statement.{statement}
use Rattle.listing.proofs.stream.short.Tie as tie

returns-2 : tie.Need-returns-then-under
unfolding short word_at
returns-2 c =
    let p2 = c in
    rw (short, le-ltb _ _ p2.if-s-lt16.false, word_at, ← p2.word-n.ensures, ← c.under.ensures, c.if-under.true)

returns-3 : tie.Need-returns-then-n-gt-BUFFER_LENGTH
unfolding short word_at buffer_length
returns-3 c =
    let p2 = c in
    let p3 = c in
    rw (short, le-ltb _ _ p3.if-s-lt16.false, word_at, ← p3.word-n.ensures, ← p2.under.ensures, c.if-under.false, lt-leb _ _ c.if-n-gt-BUFFER_LENGTH.true)

returns-4 : tie.Need-returns
unfolding short word_at buffer_length
returns-4 c =
    let p2 = c in
    let p3 = c in
    rw (short, le-ltb _ _ p3.if-s-lt16.false, word_at, ← p3.word-n.ensures, ← p2.under.ensures, c.if-under.false, le-leb _ _ c.if-n-gt-BUFFER_LENGTH.false)

pub short_spec : {M : Type 1} → statement M
unfolding short
short_spec =
    tie.close
    (tie.spec
    (λ c. rw (short, lt-ltb _ _ c.if-s-lt16.true))
    (λ c κs. search rules)
    (λ c κs. search rules)
    returns-2
    returns-3
    (λ c. search rules)
    returns-4)
