-- `listing::turns::passed` meets its contract: each way out has its tests.
-- Assumes nothing.
use Prim.Native.Nat.{◌-◌}
use mathlib.Core.Path.{refl}
use native.Mathlib.Omega.{arith}
use borrow.Author.Rules.{rules}
use borrow.Author.Tests.{eq-eqb, ne_eqb}
use Rattle.listing.specs.Run.{passed}
use Rattle.listing.proofs.Taken.{nothing_written}
use Rattle.listing.proofs.turns.passed.Statement.{statement}
use Rattle.listing.proofs.turns.passed.Tie as tie

returns : tie.Need-returns-then-left-n
unfolding passed
returns c =
    let p2 = c in
    let a = p2.args in
    rw (passed, eq-eqb (a.run.left - a.n) 0 (omega (arith, p2.if-left-n.true)))
    (record { run = p2.behind.ensures; used = refl; more = refl; line = c.big_line.ensures.0; counts = c.big_line.ensures.1 })

returns-2 : tie.Need-returns-then-ended
unfolding passed
returns-2 c =
    let p3 = c in
    let a = p3.args in
    rw (passed, ne_eqb (a.run.left - a.n) 0 (λ e. omega (arith, p3.if-left-n.false)), p3.if-ended.true)
    (record { run = c.over.ensures; used = refl; more = refl; line = c.bad_line.ensures.0; counts = c.bad_line.ensures.1 })

cast-passing : tie.Need-overflow_cast-left-2
cast-passing c = omega (arith, c.struct_known-1.given)

returns-3 : tie.Need-returns
unfolding passed
returns-3 c =
    let p2 = c in
    let a = p2.args in
    rw (passed, ne_eqb (a.run.left - a.n) 0 (λ e. omega (arith, p2.if-left-n.false)), c.if-ended.false)
    (record { run = c.passing.ensures; used = refl; more = refl; line = (nothing_written a.line.now).0; counts = (nothing_written a.line.now).1 })

pub passed_spec : {M : Type 1} → statement M
passed_spec =
    tie.close
    (tie.spec
    (λ c. search rules)
    (λ c κs. search rules)
    (λ c κs. search rules)
    returns
    (λ c κs. search rules)
    (λ c κs. search rules)
    returns-2
    (λ c. search rules)
    cast-passing
    (λ c κs. search rules)
    returns-3)
