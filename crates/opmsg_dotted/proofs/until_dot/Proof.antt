-- `opmsg_dotted::until_dot` meets its contract. The loop's invariant: the answer for all of the text is i more than the answer for what is left.
-- Assumes nothing.
use Prim.Native.Nat.{◌≤◌, ◌+◌, ◌-◌}
use native.Mathlib.Omega.{arith}
use mathlib.Core.Path.{◌≡◌}
use lib.ListN.{length, get_or, drop}
use borrow.Author.Rules.{rules}
use borrow.Author.Tests.{ne_eqb, eq-eqb}
use Rattle.opmsg.specs.Dotted.{until_dot}
use Rattle.opmsg_dotted.proofs.FirstName.{at_dot, past_byte, past_all}
use Rattle.opmsg_dotted.proofs.until_dot.Statement.{statement}
use Rattle.opmsg_dotted.proofs.until_dot.Tie as tie

abbrev invariant-loop : tie.invariant-loop-i
invariant-loop text i₀ i = (i ≤ length text) × (until_dot text ≡ i + until_dot (drop i text))

abbrev decreases-loop : tie.decreases-loop-i
decreases-loop text i₀ i = length text - i

loop-again : tie.Need-loop-i-preserved invariant-loop decreases-loop
loop-again c =
    omega (arith, past_byte c.args.text.now c.loop-i.i c.loop-i-test.true (ne_eqb (get_or c.args.text.now c.loop-i.i 0) 46 (search rules)))

at-the-end : tie.Need-returns-after-loop-i invariant-loop decreases-loop
at-the-end c = omega (arith, past_all c.args.text.now c.loop-i.i c.loop-i-test.false)

pub until_dot_spec : {M : Type 1} → statement M
until_dot_spec =
    tie.close
    (tie.spec invariant-loop decreases-loop
    (λ c. omega arith)
    (λ c. omega arith)
    (λ c. omega arith)
    (λ c. omega arith)
    loop-again
    (λ c. omega (arith, at_dot c.args.text.now c.loop-i.i c.loop-i-test.true (eq-eqb (get_or c.args.text.now c.loop-i.i 0) 46 (search rules))))
    at-the-end)
