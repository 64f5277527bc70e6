-- What follows the length has its tests; a fault of the length is that of the whole.
use Rattle.std.proofs.Common.{◌≡◌, ◌+◌, length, sym, ◌∙◌}
use Rattle.std.proofs.lemmas.Result.{err_from_is_err_and}
use borrow.Author.Tests.{lt-ltb, le-ltb}
use Rattle.wire.specs.Outcome.{refuse, ◌>>=◌}
use Rattle.wire.proofs.Outcome.{go_on}
use Rattle.bson_values.specs.Value.{binary}
use Rattle.bson_values.proofs.Parts.{passed_on, binary_of, binary_is}
use Rattle.bson_values.proofs.binary.Goals as goal
use Rattle.bson_values.proofs.binary.Goals.{then-s-n-via-then-s-n, then-s-n-via-else-s-n+then-miscounted}

pub returns-in_err-n-clause-is : goal.returns-in_err-n-clause-is
returns-in_err-n-clause-is c =
    let p = err_from_is_err_and c.from_residual.result c.from_residual.ensures.1 in
    rw (p.1, p.2) (λ v at. passed_on _ v at _ _ (c.in_err-n.ensures.is v at) ∙ binary_is v _)

pub returns-in_err-n-clause-inside : goal.returns-in_err-n-clause-inside
returns-in_err-n-clause-inside c =
    let p = err_from_is_err_and c.from_residual.result c.from_residual.ensures.1 in
    rw (p.1, p.2, c.in_err-n.ensures.inside) tt

pub returns-then-s-n-clause-is : goal.returns-then-s-n-clause-is
unfolding ◌>>=◌ refuse
returns-then-s-n-clause-is c v at =
    let s = c.args.s.now in
    let n = c.in_ok-n.n in
    let e = go_on (binary_of v s) (sym (c.in_ok-n.ensures.is v at)) in
    let done : binary_of v s n ≡ binary v s = sym e ∙ binary_is v s in
    elim c.then-s-n.branch [
      | then-s-n-via-then-s-n w ↦ rw (lt-ltb (length s) (5 + n) w.if-s-n.true) at done
      | then-s-n-via-else-s-n+then-miscounted w ↦ rw (le-ltb (length s) (5 + n) w.if-s-n.false, ← w.miscounted.ensures, w.if-miscounted.true) at done
    ]

pub returns-clause-is : goal.returns-clause-is
unfolding ◌>>=◌ refuse
returns-clause-is c v at =
    let s = c.args.s.now in
    let n = c.in_ok-n.n in
    let e = go_on (binary_of v s) (sym (c.in_ok-n.ensures.is v at)) in
    let done : binary_of v s n ≡ binary v s = sym e ∙ binary_is v s in
    rw (le-ltb (length s) (5 + n) c.if-s-n.false, ← c.miscounted.ensures, c.if-miscounted.false) at done
