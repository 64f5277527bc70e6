-- The element was read, so each step passes over a part of it.
use Rattle.std.proofs.Common.{◌≡◌, ℕ, ◌+◌, ◌-◌, List, Option, Some, None, length, get_or, take, drop, ap, ◌∙◌, refl, arith}
use Rattle.std.specs.Option.{IsSome}
use Rattle.wire.specs.Outcome.{ok}
use Rattle.wire.specs.Bytes.{until_zero}
use Rattle.wire.proofs.Outcome.{not_ok, ok_same}
use Rattle.wire.proofs.Parts.{rest_part}
use Rattle.bson_values.specs.Value.{Rule, table, rule_in}
use Rattle.bson_values.specs.declared.Kind.{Kind}
use Rattle.bson_values.specs.Inner.{rule_of, rule_found}
use Rattle.bson_elements.specs.Element.{element_size}
use Rattle.bson_skip.specs.Inner.{span}
use Rattle.bson_skip.proofs.Span.{Passed, element_is}
use Rattle.bson_skip.proofs.element_size.Goals as goal

-- its type stands in a row
listed : (t : ℕ) (o : Option Kind) (rule : Rule) → rule_found 0 o ≡ rule_in table 0 t → rule_in table 0 t ≡ ok rule → IsSome o
listed t (Some k) rule h i = refl
listed t None rule h i = not_ok (h ∙ i)

-- a value of that kind was read, in the part `&xs[start..]`
kept : (xs : List ℕ) (start : ℕ) (o : Option Kind) (kind : Kind) (p : Passed xs) → start ≡ until_zero (drop 1 xs) + 2
    → rule_found 0 o ≡ rule_in table 0 (get_or xs 0 0) → o ≡ Some kind → rule_of kind (0 + start) (take (length xs - start) (drop start xs)) ≡ ok p.value
kept xs start o kind p is found some =
    let e : rule_of kind ≡ p.rule = ok_same (rw some at found ∙ p.rule_found) in
    rw (rest_part start xs, is) (ap (λ (f : Rule). f (0 + (until_zero (drop 1 xs) + 2)) (drop (until_zero (drop 1 xs) + 2) xs)) e ∙ p.kept)

-- and so it is passed over
size_is : (xs : List ℕ) (start size : ℕ) (p : Passed xs) → start ≡ until_zero (drop 1 xs) + 2 → size ≡ span (take (length xs - start) (drop start xs)) p.value
    → start + size ≡ element_size xs
size_is xs start size p is e = let s = rw (rest_part start xs, is) at e in omega (arith, s, p.is)

pub overflow_add-start : goal.overflow_add-start
overflow_add-start c = let p = element_is c.args.s.now c.requires.1 in omega (arith, p.named)

pub unwrap-kind-requires : goal.unwrap-kind-requires
unwrap-kind-requires c = let p = element_is c.args.s.now c.requires.1 in listed _ c.kind_of.result p.rule (c.kind_of.ensures 0) p.rule_found

pub slice_bounds-skip-count : goal.slice_bounds-skip-count
slice_bounds-skip-count c = let p = element_is c.args.s.now c.requires.1 in omega (arith, p.named)

pub slice_bounds-skip-start : goal.slice_bounds-skip-start
slice_bounds-skip-start c = let p = element_is c.args.s.now c.requires.1 in omega (arith, p.named)

pub skip-requires : goal.skip-requires
skip-requires c =
    let p = element_is c.args.s.now c.requires.1 in
    (0 + (c.args.n + 2), p.value, kept _ (c.args.n + 2) c.kind_of.result c.unwrap-kind.result p (omega (arith, c.requires.0)) (c.kind_of.ensures 0) c.unwrap-kind.ensures)

whole : (c : goal.After-skip) → c.args.n + 2 + c.skip.result ≡ element_size c.args.s.now
whole c =
    let p = element_is c.args.s.now c.requires.1 in
    let is : c.args.n + 2 ≡ until_zero (drop 1 c.args.s.now) + 2 = omega (arith, c.requires.0) in
    size_is c.args.s.now (c.args.n + 2) c.skip.result p is (c.skip.ensures _ p.value (kept _ (c.args.n + 2) c.kind_of.result c.unwrap-kind.result p is (c.kind_of.ensures 0) c.unwrap-kind.ensures))

pub overflow_add-result : goal.overflow_add-result
overflow_add-result c = omega (arith, whole c)

pub returns : goal.returns
returns c = whole c
