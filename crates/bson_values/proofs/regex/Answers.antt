-- What the first part is, and then the second; a fault of the first is that of the whole.
use Rattle.std.proofs.Common.{◌≡◌, ◌+◌, ◌-◌, length, take, drop, sym, ap, ◌∙◌, arith}
use Rattle.std.proofs.lemmas.Result.{err_from_is_err_and}
use lib.ListN.{length-drop}
use Rattle.wire.proofs.Outcome.{go_on}
use Rattle.wire.proofs.Parts.{rest_part}
use Rattle.bson_values.specs.Value.{cstring, regex}
use Rattle.bson_values.specs.Inner.{behind}
use Rattle.bson_values.proofs.Parts.{passed_on}
use Rattle.bson_values.proofs.regex.Goals as goal

pub returns-in_err-m-clause-is : goal.returns-in_err-m-clause-is
unfolding regex
returns-in_err-m-clause-is c =
    let p = err_from_is_err_and c.from_residual.result c.from_residual.ensures.1 in
    rw (p.1, p.2) (λ v. passed_on _ v v _ _ (c.in_err-m.ensures.is v v))

pub returns-clause-is : goal.returns-clause-is
unfolding regex
returns-clause-is c v =
    c.behind.ensures.is v v
    ∙ ap (behind c.in_ok-m.m) (c.cstring-2.ensures.is v (v + c.in_ok-m.m) ∙ ap (cstring v (v + c.in_ok-m.m)) (rest_part c.in_ok-m.m c.args.s.now))
    ∙ sym (go_on _ (sym (c.in_ok-m.ensures.is v v)))

pub returns-clause-inside : goal.returns-clause-inside
returns-clause-inside c =
    let s = c.args.s.now in
    let m = c.in_ok-m.m in
    let long : m + length (take (length s - m) (drop m s)) ≡ length s = omega (arith, c.in_ok-m.ensures.inside, ap length (rest_part m s), length-drop m s) in
    rw long at (c.behind.ensures.inside _ c.cstring-2.ensures.inside)
