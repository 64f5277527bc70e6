-- `utf8_text::two_and_run` meets its contract: a character of two bytes and the run behind it pass, or there is none.
-- Assumes nothing.
use mathlib.Core.Path.{sym, ◌∙◌}
use native.Mathlib.Omega.{arith}
use borrow.Author.Rules.{rules}
use Rattle.utf8.proofs.Beginning.{none}
use Rattle.utf8_text.specs.Inner.{Passes}
use Rattle.utf8_text.proofs.Passing.{character_passes, passes_part}
use Rattle.utf8_text.proofs.two_and_run.Statement.{statement}
use Rattle.utf8_text.proofs.two_and_run.Tie as tie

one : (c : tie.After-of_two-n) → Passes c.of_two-n.result c.before.before.args.s.now
one c = character_passes _ _ c.of_two-n.ensures

two : (c : tie.Then-n-eq2) → Passes 2 c.before.before.before.args.s.now
two c = rw c.if-n-eq2.true at (one c.before)

and-more : tie.Need-returns-then-n-eq2
and-more c =
    let t = c.before.before in
    (passes_part 2 _ t.before.before.before.args.s.now (two t) c.narrow.ensures, λ e. absurd (omega (arith, e)))

one-or-none : tie.Need-returns
one-or-none c = let n = c.before in (one n, λ e. none _ (sym n.of_two-n.ensures ∙ e))

pub two_and_run_spec : {M : Type 1} → statement M
two_and_run_spec =
    tie.close
    (tie.spec
    (λ c κs. search rules)
    (λ c. (two c).0)
    (λ c. (two c).0)
    (λ c. search rules)
    (λ c κs. search rules)
    (λ c. search rules)
    and-more
    one-or-none)
