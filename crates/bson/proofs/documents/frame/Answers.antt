-- Each way out has its tests, on the number that `word` answers.
use Rattle.std.proofs.Common.{sym, ◌∙◌, arith}
use borrow.Author.Tests.{lt-ltb, le-ltb, eq-eqb, ne_eqb}
use Rattle.wire.specs.Outcome.{refuse, ◌>>=◌}
use Rattle.wire.proofs.Bytes.{under_false}
use Rattle.bson.specs.Document.{frame}
use Rattle.bson.proofs.documents.frame.Goals as goal
use Rattle.bson.proofs.documents.frame.Goals.{then-under-via-then-under, then-under-via-else-under+then-s-n}

pub returns-then-s-lt4 : goal.returns-then-s-lt4
unfolding frame ◌>>=◌ refuse
returns-then-s-lt4 c = rw (c.at.ensures, frame, lt-ltb _ _ c.if-s-lt4.true)

pub returns-then-under : goal.returns-then-under
unfolding frame ◌>>=◌ refuse
returns-then-under c =
    rw c.at-then-under.ensures
    (elim c.then-under.branch [
      | then-under-via-then-under w ↦ rw (frame, le-ltb _ _ c.if-s-lt4.false, ← c.word-w.ensures, ← c.under.ensures, w.if-under.true)
      | then-under-via-else-under+then-s-n w ↦ rw (frame, le-ltb _ _ c.if-s-lt4.false, ← c.word-w.ensures, ← c.under.ensures, w.if-under.false, lt-ltb _ _ w.if-s-n.true)
    ])

pub overflow_sub-last : goal.overflow_sub-last
overflow_sub-last c = omega (arith, under_false 5 _ (sym c.under.ensures ∙ c.if-under.false))

pub returns-then-s-last-ne0 : goal.returns-then-s-last-ne0
unfolding frame ◌>>=◌ refuse
returns-then-s-last-ne0 c =
    rw (c.at-then-s-last-ne0.ensures, frame, le-ltb _ _ c.if-s-lt4.false, ← c.word-w.ensures, ← c.under.ensures, c.if-under.false, le-ltb _ _ c.if-s-n.false, ne_eqb _ _ c.if-s-last-ne0.true)

pub returns : goal.returns
unfolding frame ◌>>=◌ refuse
returns c = rw (frame, le-ltb _ _ c.if-s-lt4.false, ← c.word-w.ensures, ← c.under.ensures, c.if-under.false, le-ltb _ _ c.if-s-n.false, eq-eqb _ _ c.if-s-last-ne0.false)
