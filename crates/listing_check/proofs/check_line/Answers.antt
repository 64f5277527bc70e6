-- The line before the first newline is judged, and what is told of the others follows.
use Rattle.std.proofs.Common.{eqb, sym, rules, tests, arith}
use Rattle.std.proofs.lemmas.Iterator.{YieldsList-from_slice}
use Rattle.std.proofs.lemmas.Iterator.Search.{position_from_yields_List}
use Rattle.listing_lines.specs.Fields.{newline}
use Rattle.listing_stored.specs.Inner.{limited, position_of}
use Rattle.listing_check.specs.Inner.{tell}
use Rattle.listing_check.proofs.Pieces.{refusal_is, newline_found, line_on, line_wrong}
use Rattle.listing_check.proofs.check_line.Goals as goal

pub check_rest-requires : goal.check_rest-requires
check_rest-requires c =
    let a = c.args in
    rw c.in_default.is at (newline_found a.s.now c.position.result (position_from_yields_List (λ x. eqb x newline) _ _ c.position.result c.position.ensures.ran (YieldsList-from_slice a.s.now cc) (λ x b q k. search (rules, tests))))

pub returns-in_err-q : goal.returns-in_err-q
unfolding tell
returns-in_err-q c =
    let a = c.args in
    let none = c.in_err-q.ensures.ok_part in
    let at = rw c.in-Some.is at (newline_found a.s.now c.position.result (position_from_yields_List (λ x. eqb x newline) _ _ c.position.result c.position.ensures.ran (YieldsList-from_slice a.s.now cc) (λ x b q k. search (rules, tests)))) in
    rw (refusal_is (record { line = a.p.line }) c.from_residual.result c.from_residual.ensures.1 (let e = rw none at c.in_err-q.ensures.value in cc))
    (λ later end. sym (line_wrong (limited a.v) a.s.now later (position_of a.p) c.in-Some.n at.0 at.1 a.p.line (rw none at c.line.ensures.l_value)))

pub returns : goal.returns
unfolding tell
returns c =
    let a = c.args in
    let q = c.in_ok-q.ensures.ok_part in
    let at = rw c.in-Some.is at (newline_found a.s.now c.position.result (position_from_yields_List (λ x. eqb x newline) _ _ c.position.result c.position.ensures.ran (YieldsList-from_slice a.s.now cc) (λ x b q k. search (rules, tests)))) in
    let next = rw q at c.line.ensures.follows in (
      omega arith,
      omega (arith, at.1),
      omega (arith, next),
      λ later. line_on (limited a.v) a.s.now later (position_of a.p) c.in-Some.n at.0 at.1 (position_of c.in_ok-q.q) (rw q at c.line.ensures.l_value),
    )
