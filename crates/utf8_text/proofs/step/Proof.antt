-- `utf8_text::step` meets its contract: characters of one byte pass, or what the functions for longer ones tell.
-- Assumes nothing.
use native.Mathlib.Omega.{arith}
use borrow.Author.Rules.{rules}
use Rattle.utf8_text.proofs.Passing.{ascii_passes}
use Rattle.utf8_text.proofs.step.Statement.{statement}
use Rattle.utf8_text.proofs.step.Tie as tie

some : tie.Need-returns-then-s-lt128
some c = let r = c.run.ensures in (ascii_passes _ _ r.0.1 r.1, λ e. absurd (omega (arith, r.0.0, e)))

pub step_spec : {M : Type 1} → statement M
step_spec =
    tie.close
    (tie.spec
    (λ c. search rules)
    (λ c κs. search rules)
    some
    (λ c. search rules)
    (λ c κs. search rules)
    (λ c. c.two_and_run.ensures)
    (λ c κs. search rules)
    (λ c. c.more_and_run.ensures))
