-- `utf8_text::runs::blocks` meets its contract. The loop's invariant: the longest well-formed beginning passes the first i bytes.
-- Assumes nothing.
use Prim.Native.Nat.{◌-◌}
use native.Mathlib.Omega.{arith}
use lib.ListN.{length}
use Rattle.utf8_text.specs.Inner.{Passes}
use Rattle.utf8_text.proofs.Passing.{none_passes, passes_part}
use Rattle.utf8_text.proofs.runs.blocks.Statement.{statement}
use Rattle.utf8_text.proofs.runs.blocks.Tie as tie

abbrev invariant-loop : tie.invariant-loop-i
invariant-loop s i₀ i = Passes i s

abbrev decreases-loop : tie.decreases-loop-i
decreases-loop s i₀ i = length s - i

loop-again : tie.Need-loop-i-preserved invariant-loop decreases-loop
loop-again c = passes_part _ _ _ c.before.before.before.before.loop-i.invariant c.before.block-n.ensures

pub blocks_spec : {M : Type 1} → statement M
blocks_spec =
    tie.close
    (tie.spec invariant-loop decreases-loop
    (λ c. none_passes _)
    (λ c. omega arith)
    (λ c. omega arith)
    (λ c. omega arith)
    (λ c. omega arith)
    (λ c κs. omega arith)
    (λ c. c.before.before.before.before.loop-i.invariant)
    (λ c. omega arith)
    (λ c. omega arith)
    loop-again
    (λ c. c.before.loop-i.invariant))
