-- `crate::numbers::six` meets its contract: six numbers are stored one after the other.
-- Assumes nothing.
use native.Mathlib.Omega.{arith}
use lib.ListN.{length-set}
use mir.Syntax.{w64}
use mir.Facts.{to_z-of_z}
use borrow.Author.Rules.{rules}
use Rattle.relay_c_results.proofs.Rows.{small, six}
use Rattle.relay_c_results.proofs.numbers.six.Statement.{statement}
use Rattle.relay_c_results.proofs.numbers.six.Tie as tie

returns : tie.Need-returns
returns c =
    let a = c.args in
    rw (to_z-of_z {w = w64} (record { sfits = c.well_formed.1.1.0 }), small a.a (omega arith), small a.b (omega arith), small a.c (omega arith), small a.d (omega arith), small a.e (omega arith))
    (six a.out.now a.at _ _ _ _ _ _ c.requires)

pub six_spec : {M : Type 1} → statement M
six_spec =
    tie.close
    (tie.spec
    (λ c. search rules)
    (λ c. search rules)
    (λ c. search rules)
    (λ c. search rules)
    (λ c. search rules)
    (λ c. simp length-set (omega arith))
    (λ c. search rules)
    (λ c. search rules)
    (λ c. search rules)
    (λ c. simp length-set (omega arith))
    (λ c. search rules)
    (λ c. search rules)
    (λ c. search rules)
    (λ c. simp length-set (omega arith))
    (λ c. search rules)
    (λ c. search rules)
    (λ c. search rules)
    (λ c. simp length-set (omega arith))
    (λ c. search rules)
    (λ c. search rules)
    (λ c. search rules)
    (λ c. simp length-set (omega arith))
    (λ c. simp length-set)
    returns)
