-- How many bytes an element takes that was read.
-- Assumes nothing.
use Prim.Native.Nat.{ℕ, ◌+◌, ◌<◌}
use mathlib.Core.Path.{◌≡◌, refl, ap, ◌∙◌}
use mathlib.Core.List.{List}
use native.Mathlib.Omega.{arith}
use lib.ListN.{length, get_or, drop}
use borrow.Author.Tests.{leb-false}
use Rattle.wire.specs.Outcome.{Outcome, ok, refused}
use Rattle.wire.specs.Bytes.{until_zero}
use Rattle.wire.specs.Walk.{Step}
use Rattle.wire.proofs.Outcome.{ok_same, went, passed}
use Rattle.wire.proofs.Walk.{step_size}
use Rattle.utf8.specs.Text.{text_at}
use Rattle.bson_values.specs.Value.{Value, plain, embedded, scoped, Rule, table, rule_in}
use Rattle.bson_skip.specs.Inner.{span}
use Rattle.bson_elements.specs.Element.{Head, head, inside, element, size_of, over, element_size}

record HeadIs (xs : List ℕ) (h : Head) : Type 0 where
  rule : Rule
  rule_found : rule_in table 0 (get_or xs 0 0) ≡ ok rule
  named : 1 + until_zero (drop 1 xs) < length xs
  starts : h.start ≡ until_zero (drop 1 xs) + 2
  kept : rule (0 + (until_zero (drop 1 xs) + 2)) (drop (until_zero (drop 1 xs) + 2) xs) ≡ ok h.value

head_is : (xs : List ℕ) (h : Head) → head 0 xs 0 ≡ ok h → HeadIs xs h
unfolding head text_at
head_is xs h e =
    let c = passed _ _ _ _ e in
    let rule = went _ _ c.1 in
    let d = passed _ _ _ _ rule.2 in
    let value = went _ _ (passed _ _ _ _ d.1).1 in
    let is : record { start = until_zero (drop 1 xs) + 2; value = value.0 } ≡ h = ok_same value.2 in
    rw (← is) (record {
      rule = rule.0;
      rule_found = rule.1;
      named = leb-false (length xs) (1 + until_zero (drop 1 xs)) d.0;
      starts = refl;
      kept = value.1;
    })

inside_is : (v : ℕ) (xs : List ℕ) (count : ℕ) (x : Value) (r : Step ℕ) → inside over v xs count x ≡ ok r → r.size ≡ span xs x
unfolding inside
inside_is v xs count (plain size) r h = step_size h
inside_is v xs count embedded r h = step_size h
inside_is v xs count (scoped start size) r h =
    let c = went _ _ h in
    step_size (passed _ _ _ _ c.2).1

pub record Passed (xs : List ℕ) : Type 0 where
  pub rule : Rule
  pub value : Value
  pub rule_found : rule_in table 0 (get_or xs 0 0) ≡ ok rule
  pub named : 1 + until_zero (drop 1 xs) < length xs
  pub kept : rule (0 + (until_zero (drop 1 xs) + 2)) (drop (until_zero (drop 1 xs) + 2) xs) ≡ ok value
  pub is : element_size xs ≡ until_zero (drop 1 xs) + 2 + span (drop (until_zero (drop 1 xs) + 2) xs) value

pub element_is : (xs : List ℕ) → 0 < element_size xs → Passed xs
unfolding element_size element size_of
element_is xs positive = go (element over 0 xs 0) refl positive
  where
    go : (o : Outcome (Step ℕ)) → element over 0 xs 0 ≡ o → 0 < size_of o → Passed xs
    go (ok r) e h =
        let c = went (head 0 xs 0) _ e in
        let d = went (inside over _ _ _ _) _ c.2 in
        let k = head_is xs c.0 c.1 in
        let i = inside_is _ _ _ c.0.value d.0 d.1 in
        record {
          rule = k.rule;
          value = c.0.value;
          rule_found = k.rule_found;
          named = k.named;
          kept = k.kept;
          is = ap size_of e ∙ step_size d.2 ∙ rw (i, k.starts);
        }
    go (refused number place) e h = absurd (omega arith)
