-- What a call answers, by the room for its view.
-- Assumes nothing.
use Prim.Native.Nat.{ℕ, ◌<◌, ◌≤◌}
use mathlib.Core.Path.{◌≡◌, refl, ◌∙◌}
use borrow.Author.Tests.{lt-ltb, le-ltb}
use Rattle.wire.specs.Outcome.{Outcome, ok, refused}
use Rattle.wire.proofs.Outcome.{pass, stop, go_on, halt}
use Rattle.std.specs.Prelude.{Result, Ok, Err}
use Rattle.refusal.specs.Told.{told}
use Rattle.refusal.specs.declared.Refusal.{Refusal}
use Rattle.relay_c_results.specs.Numbers.{view_size}
use Rattle.relay_c_results.specs.Interface.{number_told, place_told, told_by, with_room}

-- by the numbers and places of a refusal with a reason
pub told_is : {A : Type 0} (r : Result A Refusal) → told_by number_told place_told r ≡ told r
told_is (Ok a) = refl
told_is (Err r) = refl

module _ {A : Type 0} (room : ℕ) (o : Outcome A) where
  -- the call's own refusal
  pub own_refusal : {number place : ℕ} → o ≡ refused number place → with_room room o ≡ refused number place
  unfolding with_room
  own_refusal h = halt _ h

  -- there is no room for the view
  pub no_room : {a : A} → room < view_size → o ≡ ok a → with_room room o ≡ refused 25 0
  unfolding with_room
  no_room l h = go_on _ h ∙ stop 25 0 _ (lt-ltb _ _ l)

  -- there is
  pub has_room : {a : A} → view_size ≤ room → o ≡ ok a → with_room room o ≡ ok a
  unfolding with_room
  has_room l h = go_on _ h ∙ pass 25 0 _ (le-ltb _ _ l)
