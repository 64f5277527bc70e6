-- `listing::stream::long` meets its contract: each way out has its tests.
-- Assumes nothing.
use Prim.Native.Nat.{◌<◌, ◌≤◌}
use native.Mathlib.Omega.{arith}
use borrow.Author.Rules.{rules}
use borrow.Author.Tests.{le-leb, lt-leb}
use Rattle.wire.specs.Bytes.{word_at}
use Rattle.opmsg.specs.Layout.{max_length}
use Rattle.listing.specs.Next.{buffer_length, long}
use Rattle.listing.proofs.stream.long.Statement.{statement}
use Rattle.listing.proofs.stream.long.Tie as tie

pub long_spec : {M : Type 1} → statement M
unfolding long word_at max_length buffer_length
long_spec =
    tie.close
    (tie.spec
    (λ c. rw (long, lt-leb _ _ c.if-s-lt16.true))
    (λ c κs. search rules)
    (λ c.
    let past : max_length < c.word-n.result = omega arith in
    rw (long, le-leb _ _ c.if-s-lt16.false, word_at, ← c.word-n.ensures, lt-leb _ _ past))
    (λ c.
    let within : c.word-n.result ≤ max_length = omega arith in
    rw (long, le-leb _ _ c.if-s-lt16.false, word_at, ← c.word-n.ensures, le-leb _ _ within)))
