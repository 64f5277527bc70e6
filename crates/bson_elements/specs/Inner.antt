-- What the answer on an element stands for in document 01's terms, and how far it reaches.
-- Assumes nothing: these are definitions.
use Rattle.std.specs.Prelude.{ℕ, ◌+◌, ◌-◌, ◌^◌, ◌≤◌, ◌<◌, Result, Ok, Err}
use Rattle.wire.specs.Outcome.{Outcome, ok, refused, ◌>>=◌}
use Rattle.refusal.specs.declared.Refusal.{Refusal}
use Rattle.refusal.specs.Told.{told}
use Rattle.utf8_text.specs.declared.TextError.{TextError}
use Rattle.bson_values.specs.Value.{table, rule_in}
use Rattle.bson_values.specs.Inner.{value, LiesWithin}
use Rattle.bson_elements.specs.Element.{Head}
use Rattle.bson_elements.specs.declared.Outline.{Outline}

-- an element but for the documents in it, whose value starts behind its type and its name and lies within n bytes of it
abbrev pub outline : Result Outline Refusal → Outcome Head
outline (Ok o) = ok (record { start = o.start; value = value o.value })
outline (Err r) = told (Err r)

abbrev pub OutlineWithin : (n : ℕ) → Result Outline Refusal → Type 0
OutlineWithin n (Ok o) = (2 ≤ o.start) × (o.start ≤ n) × LiesWithin (n - o.start) o.value
OutlineWithin n (Err r) = Unit {0}

-- why the name behind the type at a place is none, where places up to there are numbers of 64 bits
abbrev pub misnamed : {A : Type 0} → (at : ℕ) → TextError → Outcome A
misnamed at TextError.Unended = refused 18 (at + 1)
misnamed at (TextError.IllFormed n) = refused 27 (at + 1 + n)

abbrev pub Placed : (at : ℕ) → TextError → Type 0
Placed at TextError.Unended = at + 1 < 2 ^ 64
Placed at (TextError.IllFormed n) = at + 1 + n < 2 ^ 64

-- an element at a place, of a type t, whose name is none
abbrev pub unnamed : (t at : ℕ) → TextError → Outcome Head
unnamed t at e = rule_in table at t >>= λ _. misnamed at e
