-- `listing::turns::turn` meets its contract: inside a message that is passed over or not.
-- Assumes nothing.
use borrow.Author.Rules.{rules}
use borrow.Author.Tests.{eq-eqb, ne_eqb}
use Rattle.listing.specs.Run.{turn}
use Rattle.listing.proofs.turns.turn.Statement.{statement}
use Rattle.listing.proofs.turns.turn.Tie as tie

returns : tie.Need-returns-then-run-eq0
unfolding turn
returns c =
    let p2 = c in
    rw (turn, eq-eqb _ _ p2.if-run-eq0.true, ← p2.next.ensures.0) c.stepped.ensures

returns-2 : tie.Need-returns
unfolding turn
returns-2 c = rw (turn, ne_eqb _ _ c.if-run-eq0.false) c.passed.ensures

pub turn_spec : {M : Type 1} → statement M
turn_spec =
    tie.close
    (tie.spec
    (λ c κs. search rules)
    (λ c κs. search rules)
    returns
    (λ c κs. search rules)
    returns-2)
