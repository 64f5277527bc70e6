-- Each way out has what the type is, and what is wrong with the name.
use Rattle.std.proofs.Common.{◌≡◌, ℕ, Option, Some, None, true, false, sym, arith}
use Rattle.std.specs.Option.{is_some}
use Rattle.wire.specs.Outcome.{Outcome, refused, ◌>>=◌}
use Rattle.wire.proofs.Outcome.{go_on, halt}
use Rattle.bson_values.specs.declared.Kind.{Kind}
use Rattle.bson_values.specs.Value.{table, rule_in}
use Rattle.bson_values.specs.Inner.{rule_found}
use Rattle.bson_elements.specs.Element.{Head}
use Rattle.bson_elements.proofs.unnamed.Goals as goal

module _ (t at : ℕ) (f : Outcome Head) where
  unlisted : (o : Option Kind) → rule_found at o ≡ rule_in table at t → is_some o ≡ false → refused 17 at ≡ (rule_in table at t >>= λ _. f)
  unlisted (Some k) h i = cc
  unlisted None h i = sym (halt _ (sym h))

  listed : (o : Option Kind) → rule_found at o ≡ rule_in table at t → is_some o ≡ true → f ≡ (rule_in table at t >>= λ _. f)
  listed (Some k) h i = sym (go_on _ (sym h))
  listed None h i = cc

pub returns-then-is_none : goal.returns-then-is_none
returns-then-is_none c = rw c.at.ensures (unlisted c.args.t c.args.at _ c.kind_of.result (c.kind_of.ensures c.args.at) c.if-is_none.ensures)

pub overflow_add-at : goal.overflow_add-at
overflow_add-at c = omega (arith, rw c.in-Unended.is at c.requires)

pub overflow_add-at-in-IllFormed : goal.overflow_add-at-in-IllFormed
overflow_add-at-in-IllFormed c = omega (arith, rw c.in-IllFormed.is at c.requires)

pub overflow_add-at-in-IllFormed-2 : goal.overflow_add-at-in-IllFormed-2
overflow_add-at-in-IllFormed-2 c = omega (arith, rw c.in-IllFormed.is at c.requires)

pub returns-in-Unended : goal.returns-in-Unended
returns-in-Unended c = rw (c.at-in-Unended.ensures, c.in-Unended.is) (listed c.args.t c.args.at _ c.kind_of.result (c.kind_of.ensures c.args.at) c.if-is_none.ensures)

pub returns-in-IllFormed : goal.returns-in-IllFormed
returns-in-IllFormed c = rw (c.at-in-IllFormed.ensures, c.in-IllFormed.is) (listed c.args.t c.args.at _ c.kind_of.result (c.kind_of.ensures c.args.at) c.if-is_none.ensures)
