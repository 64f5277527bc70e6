-- `utf8_text::more_and_run` meets its contract: a character of three bytes and the run behind it pass, or one of four bytes, or there is none.
-- Assumes nothing.
use mathlib.Core.Path.{sym, ◌∙◌}
use native.Mathlib.Omega.{arith}
use borrow.Author.Rules.{rules}
use Rattle.utf8.proofs.Beginning.{none}
use Rattle.utf8_text.specs.Inner.{Passes}
use Rattle.utf8_text.proofs.Passing.{character_passes, passes_part}
use Rattle.utf8_text.proofs.more_and_run.Statement.{statement}
use Rattle.utf8_text.proofs.more_and_run.Tie as tie

one : (c : tie.After-of_more-n) → Passes c.of_more-n.result c.before.before.args.s.now
one c = character_passes _ _ c.of_more-n.ensures

three : (c : tie.Then-n-eq3) → Passes 3 c.before.before.before.args.s.now
three c = rw c.if-n-eq3.true at (one c.before)

and-more : tie.Need-returns-then-n-eq3
and-more c =
    let t = c.before.before in
    (passes_part 3 _ t.before.before.before.args.s.now (three t) c.triples.ensures, λ e. absurd (omega (arith, e)))

one-or-none : tie.Need-returns
one-or-none c = let n = c.before in (one n, λ e. none _ (sym n.of_more-n.ensures ∙ e))

pub more_and_run_spec : {M : Type 1} → statement M
more_and_run_spec =
    tie.close
    (tie.spec
    (λ c κs. search rules)
    (λ c. (three c).0)
    (λ c. (three c).0)
    (λ c. search rules)
    (λ c κs. search rules)
    (λ c. search rules)
    and-more
    one-or-none)
