-- `crate::numbers::entry` meets its contract: each kind of section has its six numbers.
-- Assumes nothing.
use borrow.Author.Rules.{rules}
use Rattle.relay_c_results.specs.Numbers.{section_numbers}
use Rattle.relay_c_results.proofs.numbers.entry.Statement.{statement}
use Rattle.relay_c_results.proofs.numbers.entry.Tie as tie

returns : tie.Need-returns-in-None
unfolding section_numbers
returns c = rw c.in-None.is c.six.ensures

returns-2 : tie.Need-returns-in-Body
unfolding section_numbers
returns-2 c = rw c.in-Body.is c.six-in-Body.ensures

returns-3 : tie.Need-returns-in-Sequence
unfolding section_numbers
returns-3 c = rw c.in-Sequence.is c.six-in-Sequence.ensures

pub entry_spec : {M : Type 1} → statement M
entry_spec =
    tie.close
    (tie.spec
    (λ c. search rules)
    (λ c κs. search rules)
    (λ c. search rules)
    (λ c κs. search rules)
    (λ c. search rules)
    (λ c κs. search rules)
    (λ c. search rules)
    returns
    (λ c. search rules)
    returns-2
    (λ c. search rules)
    returns-3)
