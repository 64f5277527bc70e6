-- The interface for C and Rust: numbers and slices only.
-- Assumes nothing: these are definitions.
use Rattle.std.specs.Prelude.{ℕ, ◌+◌, ◌*◌, ◌^◌, not, List, ◌++◌, drop, Result, Ok, Err, ℤ, ltb, eqb}
use Rattle.wire.specs.Outcome.{Outcome, ok, refused, refuse, ◌>>=◌}
use Rattle.refusal.specs.Told.{number}
use Rattle.refusal.specs.declared.Refusal.{Refusal}
use Rattle.opmsg.specs.declared.Edition.{Edition}
use Rattle.opmsg.specs.declared.View.{View}
use Rattle.relay_c_results.specs.Numbers.{view_numbers, view_size}

-- an edition: its known bits, and whether sections of kind 1 are known, 0 or not 0
unfoldable pub edition_of : ℕ → ℕ → Edition
edition_of bits sequences = record { bits = bits; sequences = not (eqb sequences 0) }

-- an accepted value, or a refusal by its number and its place
abbrev pub told_by : {A E : Type 0} → (number place : E → ℕ) → Result A E → Outcome A
told_by number place (Ok a) = ok a
told_by number place (Err r) = refused (number r) (place r)

-- those of a refusal with a reason
abbrev pub number_told : Refusal → ℕ
number_told r = number r.reason

abbrev pub place_told : Refusal → ℕ
place_told r = r.place

-- room for the numbers of a view is asked after the call's own refusals
unfoldable pub with_room : {A : Type 0} → ℕ → Outcome A → Outcome A
with_room room o = do
  a ← o
  _ ← refuse 25 0 (ltb room view_size)
  ok a

-- the result: 0 where the call accepts, or else number × 2 ^ 32 + place; a place is below 2 ^ 32
unfoldable pub result_of : {A : Type 0} → Outcome A → ℕ
result_of (ok a) = 0
result_of (refused number place) = number * 2 ^ 32 + place

-- the lent numbers after the call: those of the view and then what stood there, or all as it was
unfoldable pub numbers : Outcome View → List ℤ → List ℤ
numbers (ok v) old = view_numbers v ++ drop view_size old
numbers (refused number place) old = old
