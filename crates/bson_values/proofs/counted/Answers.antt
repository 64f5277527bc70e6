-- Each way out has its tests, on the number that `word` answers.
use Rattle.std.proofs.Common.{arith, sym, ◌∙◌}
use borrow.Author.Tests.{lt-ltb, le-ltb}
use Rattle.wire.specs.Outcome.{refuse, ◌>>=◌}
use Rattle.wire.proofs.Bytes.{under_false}
use Rattle.bson_values.proofs.counted.Goals as goal

pub returns-then-s-lt4-clause-is : goal.returns-then-s-lt4-clause-is
unfolding ◌>>=◌ refuse
returns-then-s-lt4-clause-is c = λ v at. rw (lt-ltb _ _ c.if-s-lt4.true)

pub returns-then-under-clause-is : goal.returns-then-under-clause-is
unfolding ◌>>=◌ refuse
returns-then-under-clause-is c = λ v at. rw (le-ltb _ _ c.if-s-lt4.false, ← c.word-w.ensures, ← c.under.ensures, c.if-under.true)

pub returns-clause-is : goal.returns-clause-is
unfolding ◌>>=◌ refuse
returns-clause-is c = λ v at. rw (le-ltb _ _ c.if-s-lt4.false, ← c.word-w.ensures, ← c.under.ensures, c.if-under.false)

pub returns-clause-inside : goal.returns-clause-inside
returns-clause-inside c = omega (arith, under_false _ _ (sym c.under.ensures ∙ c.if-under.false))
