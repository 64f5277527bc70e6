-- `utf8_text::well_formed` meets its contract. The loop's invariant: the longest well-formed beginning passes the first i bytes.
-- Assumes nothing.
use Prim.Native.Nat.{◌-◌}
use native.Mathlib.Omega.{arith}
use lib.ListN.{length}
use Rattle.utf8_text.specs.Inner.{Passes}
use Rattle.utf8_text.proofs.Passing.{none_passes, passes_part, ends_before, ends_at_the_end}
use Rattle.utf8_text.proofs.well_formed.Statement.{statement}
use Rattle.utf8_text.proofs.well_formed.Tie as tie

abbrev invariant-loop : tie.invariant-loop-i
invariant-loop s i₀ i = Passes i s

abbrev decreases-loop : tie.decreases-loop-i
decreases-loop s i₀ i = length s - i

where-it-broke : tie.Need-returns-then-n-eq0 invariant-loop decreases-loop
where-it-broke c = ends_before _ _ c.before.before.before.before.loop-i.invariant (c.before.step-n.ensures.1 c.if-n-eq0.true)

loop-again : tie.Need-loop-i-preserved invariant-loop decreases-loop
loop-again c = passes_part _ _ _ c.before.before.before.before.loop-i.invariant c.before.step-n.ensures.0

pub well_formed_spec : {M : Type 1} → statement M
well_formed_spec =
    tie.close
    (tie.spec invariant-loop decreases-loop
    (λ c. none_passes _)
    (λ c. omega arith)
    (λ c. omega arith)
    (λ c. omega arith)
    (λ c κs. omega arith)
    where-it-broke
    (λ c. omega arith)
    (λ c. omega arith)
    loop-again
    (λ c. ends_at_the_end _ _ c.before.loop-i.invariant c.loop-i-test.false))
