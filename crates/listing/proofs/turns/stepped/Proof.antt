-- `listing::turns::stepped` meets its contract: each kind of step has its turn.
-- Assumes nothing.
use mathlib.Core.Path.{refl}
use borrow.Author.Rules.{rules}
use Rattle.listing.specs.Run.{stepped}
use Rattle.listing.proofs.Taken.{nothing_written}
use Rattle.listing.proofs.turns.stepped.Statement.{statement}
use Rattle.listing.proofs.turns.stepped.Tie as tie

returns : tie.Need-returns-in-Message
unfolding stepped
returns c =
    let p2 = c in
    rw p2.in-Message.is
    (record { run = c.behind.ensures; used = refl; more = refl; line = p2.message_line-n.ensures.0; counts = p2.message_line-n.ensures.1 })

returns-2 : tie.Need-returns-in-Big
unfolding stepped
returns-2 c =
    let old = c.args.line.now in
    rw c.in-Big.is
    (record { run = c.passing.ensures; used = refl; more = refl; line = (nothing_written old).0; counts = (nothing_written old).1 })

returns-3 : tie.Need-returns-in-Bad
unfolding stepped
returns-3 c =
    rw c.in-Bad.is
    (record { run = c.over.ensures; used = refl; more = refl; line = c.bad_line-n.ensures.0; counts = c.bad_line-n.ensures.1 })

returns-4 : tie.Need-returns-in-More
unfolding stepped
returns-4 c =
    let old = c.args.line.now in
    rw c.in-More.is (record { run = refl; used = refl; more = refl; line = (nothing_written old).0; counts = (nothing_written old).1 })

returns-5 : tie.Need-returns-in-End
unfolding stepped
returns-5 c =
    let old = c.args.line.now in
    rw c.in-End.is
    (record { run = c.over-in-End.ensures; used = refl; more = refl; line = (nothing_written old).0; counts = (nothing_written old).1 })

pub stepped_spec : {M : Type 1} → statement M
stepped_spec =
    tie.close
    (tie.spec
    (λ c. search rules)
    (λ c κs. search rules)
    (λ c κs. search rules)
    (λ c. search rules)
    (λ c. search rules)
    (λ c κs. search rules)
    (λ c. search rules)
    (λ c κs. search rules)
    (λ c κs. search rules)
    (λ c. search rules)
    (λ c. search rules)
    (λ c κs. search rules)
    returns
    returns-2
    returns-3
    returns-4
    returns-5)
