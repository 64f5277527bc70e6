-- What follows the total has its test; a fault of the total is that of the whole, and so is one of the string in it.
use Rattle.std.proofs.Common.{◌≡◌, ℕ, ◌+◌, ◌-◌, ◌≤◌, List, length, take, drop, sym, ap, ◌∙◌, arith}
use Rattle.std.proofs.lemmas.Result.{err_from_is_err_and}
use lib.ListN.{length-drop}
use lib.Seq.{length-take-le}
use borrow.Author.Tests.{lt-ltb, le-ltb}
use Rattle.wire.specs.Outcome.{ok, refuse, ◌>>=◌}
use Rattle.wire.proofs.Outcome.{go_on}
use Rattle.bson_values.specs.Value.{string, scoped, code_with_scope}
use Rattle.bson_values.specs.Inner.{counted, behind}
use Rattle.bson_values.proofs.Parts.{passed_on, reaches_on, code_of, code_is}
use Rattle.bson_values.proofs.code_with_scope.Goals as goal

-- the rest, where the total was read
rest : (v at t : ℕ) (xs : List ℕ) → ok t ≡ counted v 14 xs → code_of v xs t ≡ code_with_scope v xs
rest v at t xs e = sym (go_on (code_of v xs) (sym e)) ∙ code_is v xs

-- where the string is found, and how long what it lies in is
abbrev part : ℕ → List ℕ → List ℕ
part t xs = take (t - 4) (drop 4 xs)

long : (t : ℕ) (xs : List ℕ) → 14 ≤ t → t ≤ length xs → 4 + length (part t xs) ≡ t
long t xs l h = omega (arith, length-take-le (t - 4) (drop 4 xs) (omega (arith, length-drop 4 xs)))

pub returns-in_err-size-clause-is : goal.returns-in_err-size-clause-is
returns-in_err-size-clause-is c =
    let p = err_from_is_err_and c.from_residual.result c.from_residual.ensures.1 in
    rw (p.1, p.2) (λ v. passed_on _ v v _ _ (c.in_err-size.ensures.is v v) ∙ code_is v _)

pub returns-in_err-size-clause-inside : goal.returns-in_err-size-clause-inside
returns-in_err-size-clause-inside c =
    let p = err_from_is_err_and c.from_residual.result c.from_residual.ensures.1 in
    rw (p.1, p.2, c.in_err-size.ensures.inside) tt

pub returns-then-s-size-clause-is : goal.returns-then-s-size-clause-is
unfolding ◌>>=◌ refuse
returns-then-s-size-clause-is c v =
    let s = c.args.s.now in
    let t = c.in_ok-size.size in
    rw (lt-ltb (length s) t c.if-s-size.true) at (rest v v t s (c.in_ok-size.ensures.is v v))

pub returns-in_err-start-clause-is : goal.returns-in_err-start-clause-is
unfolding ◌>>=◌ refuse
returns-in_err-start-clause-is c =
    let p = err_from_is_err_and c.from_residual-in_err-start.result c.from_residual-in_err-start.ensures.1 in
    let s = c.args.s.now in
    let t = c.in_ok-size.size in
    rw (p.1, p.2)
    (λ v. passed_on _ v v (behind 4 (string v (v + 4) (part t s))) (λ start. ok (scoped start t)) (c.in_err-start.ensures.is v v ∙ ap (behind 4) (c.string.ensures.is v (v + 4)))
    ∙ rw (le-ltb (length s) t c.if-s-size.false) at (rest v v t s (c.in_ok-size.ensures.is v v)))

pub returns-in_err-start-clause-inside : goal.returns-in_err-start-clause-inside
returns-in_err-start-clause-inside c =
    let p = err_from_is_err_and c.from_residual-in_err-start.result c.from_residual-in_err-start.ensures.1 in
    let s = c.args.s.now in
    let t = c.in_ok-size.size in
    let l = long t s c.in_ok-size.ensures.inside.0 c.if-s-size.false in
    rw (p.1, p.2) (reaches_on _ (4 + length (part t s)) (length s) (omega arith) (c.in_err-start.ensures.inside _ c.string.ensures.inside))

pub returns-clause-is : goal.returns-clause-is
unfolding ◌>>=◌ refuse
returns-clause-is c v =
    let s = c.args.s.now in
    let t = c.in_ok-size.size in
    let o : ok c.in_ok-start.start ≡ behind 4 (string v (v + 4) (part t s)) = c.in_ok-start.ensures.is v v ∙ ap (behind 4) (c.string.ensures.is v (v + 4)) in
    sym (go_on (λ (start : ℕ). ok (scoped start t)) (sym o)) ∙ rw (le-ltb (length s) t c.if-s-size.false) at (rest v v t s (c.in_ok-size.ensures.is v v))

pub returns-clause-inside : goal.returns-clause-inside
returns-clause-inside c =
    let s = c.args.s.now in
    let t = c.in_ok-size.size in
    let l = long t s c.in_ok-size.ensures.inside.0 c.if-s-size.false in
    omega (arith, c.in_ok-start.ensures.inside _ c.string.ensures.inside)
