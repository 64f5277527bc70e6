-- `listing::stream::judge` meets its contract: a long message is passed over, any other is read.
-- Assumes nothing.
use borrow.Author.Rules.{rules}
use Rattle.wire.specs.Bytes.{word_at}
use Rattle.listing.specs.Next.{judge}
use Rattle.listing.proofs.stream.judge.Statement.{statement}
use Rattle.listing.proofs.stream.judge.Tie as tie

returns : tie.Need-returns-then-long
unfolding judge word_at
returns c =
    let p2 = c in
    rw (judge, ← p2.long.ensures, c.if-long.true, word_at, ← c.word.ensures)

returns-2 : tie.Need-returns
unfolding judge
returns-2 c =
    let p2 = c in
    rw (judge, ← p2.long.ensures, c.if-long.false, ← c.read_step.ensures)

pub judge_spec : {M : Type 1} → statement M
judge_spec =
    tie.close
    (tie.spec
    (λ c κs. search rules)
    (λ c κs. search rules)
    returns
    (λ c κs. search rules)
    returns-2)
