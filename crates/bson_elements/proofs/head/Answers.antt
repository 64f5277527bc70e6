-- Each way out has what is found of the name, and what the type and the value are.
use Rattle.std.proofs.Common.{◌≡◌, ℕ, ◌+◌, ◌<◌, Err, get_or, drop, sym, ap, ◌∙◌, arith}
use Rattle.std.proofs.lemmas.Result.{err_from_is_err_and}
use Rattle.std.proofs.lemmas.Grind.{common_steps}
use borrow.Author.Tests.{le-leb}
use Rattle.wire.specs.Outcome.{ok}
use Rattle.wire.proofs.Outcome.{stop, go_on, halt}
use Rattle.wire.proofs.Parts.{rest_part}
use Rattle.refusal.specs.Told.{told}
use Rattle.bson_values.specs.Inner.{fault, value, rule_of}
use Rattle.bson_values.proofs.Parts.{passed_on}
use Rattle.bson_elements.specs.Element.{Head, max_elements, head}
use Rattle.bson_elements.specs.Inner.{unnamed}
use Rattle.bson_elements.proofs.Heads.{named, misread}
use Rattle.refusal.proofs.Mapped.{same_ok, err_behind}
use Rattle.bson_elements.proofs.head.Goals as goal

pub returns-then-count-ge-MAX_ELEMENTS-clause-is : goal.returns-then-count-ge-MAX_ELEMENTS-clause-is
unfolding head max_elements
returns-then-count-ge-MAX_ELEMENTS-clause-is c = rw c.at.ensures (sym (stop 21 _ _ (le-leb _ _ c.if-count-ge-MAX_ELEMENTS.true)))

-- another element is allowed
few : (n : ℕ) → n < 262144 → n < max_elements
unfolding max_elements
few n l = l

pub returns-in_err-n-clause-is : goal.returns-in_err-n-clause-is
returns-in_err-n-clause-is c =
    let s = c.args.s.now in
    let p = err_from_is_err_and c.from_residual.result c.from_residual.ensures.1 in
    let b = err_behind _ c.zero_ended.result c.map_err.result c.map_err.ensures.cases _ c.in_err-n.was in
    let x : told (Err c.in_err-n.field-0.0) ≡ unnamed (get_or s 0 0) c.args.at b.0 = grind (arith, common_steps) in
    rw (p.1, p.2) (x ∙ sym (misread c.args.at s c.args.count (few _ c.if-count-ge-MAX_ELEMENTS.false) c.zero_ended.result c.zero_ended.ensures b.0 b.1))

pub returns-in_default-clause-is : goal.returns-in_default-clause-is
returns-in_default-clause-is c =
    let s = c.args.s.now in
    let i = same_ok _ c.zero_ended.result c.map_err.result c.map_err.ensures.cases _ c.in_ok-n.was in
    let h = named c.args.at s c.args.count (few _ c.if-count-ge-MAX_ELEMENTS.false) c.zero_ended.result c.zero_ended.ensures c.in_ok-n.n i in
    rw c.at-in_default.ensures (sym (h ∙ halt _ (sym (c.in_default.ensures c.args.at))))

pub returns-in_err-value-clause-is : goal.returns-in_err-value-clause-is
returns-in_err-value-clause-is c =
    let s = c.args.s.now in
    let start = c.in_ok-n.n + 2 in
    let v = c.args.at + start in
    let p = err_from_is_err_and c.from_residual-in_err-value.result c.from_residual-in_err-value.ensures.1 in
    let i = same_ok _ c.zero_ended.result c.map_err.result c.map_err.ensures.cases _ c.in_ok-n.was in
    let h = named c.args.at s c.args.count (few _ c.if-count-ge-MAX_ELEMENTS.false) c.zero_ended.result c.zero_ended.ensures c.in_ok-n.n i in
    let b = err_behind _ c.value_of.result c.map_err-2.result c.map_err-2.ensures.cases _ c.in_err-value.was in
    let x : told {A = Head} (Err c.in_err-value.field-0.0) ≡ fault v v b.0 = grind (arith, common_steps) in
    let k : fault v v b.0 ≡ rule_of c.in-Some.kind v (drop start s) = rw b.1 at (c.value_of.ensures.is v) ∙ ap (rule_of c.in-Some.kind v) (rest_part start s) in
    rw (p.1, p.2) (x ∙ passed_on b.0 v v _ (λ value. ok (record { start = start; value = value })) k ∙ sym (h ∙ go_on _ (sym (c.in-Some.ensures c.args.at))))

pub returns-clause-is : goal.returns-clause-is
returns-clause-is c =
    let s = c.args.s.now in
    let start = c.in_ok-n.n + 2 in
    let v = c.args.at + start in
    let i = same_ok _ c.zero_ended.result c.map_err.result c.map_err.ensures.cases _ c.in_ok-n.was in
    let h = named c.args.at s c.args.count (few _ c.if-count-ge-MAX_ELEMENTS.false) c.zero_ended.result c.zero_ended.ensures c.in_ok-n.n i in
    let j = same_ok _ c.value_of.result c.map_err-2.result c.map_err-2.ensures.cases _ c.in_ok-value.was in
    let k : ok (value c.in_ok-value.value) ≡ rule_of c.in-Some.kind v (drop start s) = rw j at (c.value_of.ensures.is v) ∙ ap (rule_of c.in-Some.kind v) (rest_part start s) in
    sym (h ∙ go_on _ (sym (c.in-Some.ensures c.args.at)) ∙ go_on _ (sym k))
