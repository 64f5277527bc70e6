-- What a call that writes a message promises, by the room for its view.
-- Assumes nothing.
use Prim.Native.Nat.{ℕ, ◌+◌, ◌*◌, ◌^◌, ◌<◌, ◌≤◌}
use mathlib.Core.Path.{◌≡◌, refl, ◌∙◌}
use mathlib.Core.List.{List, ◌++◌}
use native.Mathlib.Omega.{arith}
use lib.ListN.{length, drop}
use lib.IntN.{ℤ}
use Rattle.std.specs.Prelude.{Result}
use Rattle.wire.specs.Outcome.{Outcome, ok, refused, ◌>>=◌}
use Rattle.refusal.specs.Told.{told}
use Rattle.refusal.specs.declared.Refusal.{Refusal}
use Rattle.opmsg.specs.Inner.{judged}
use Rattle.opmsg.specs.declared.View.{View}
use Rattle.message.specs.Message.{Written, viewed, output}
use Rattle.message.specs.Inner.{decided}
use Rattle.relay_c_results.specs.Numbers.{view_numbers, view_size}
use Rattle.relay_c_results.specs.Interface.{with_room, result_of, numbers}
use Rattle.relay_c_results.proofs.Room.{own_refusal, no_room, has_room}

-- its result, the output, and the numbers of the view
abbrev Promised : ℕ → Outcome Written → (code : ℕ) → (old out : List ℕ) → (view shown : List ℤ) → Type 0
Promised room o code old out view shown =
    (code ≡ result_of (with_room room o)) × ((out ≡ output (with_room room o) old) × (shown ≡ numbers (viewed (with_room room o)) view))

module _ (room : ℕ) (o : Outcome Written) (old : List ℕ) (view : List ℤ) where
  -- a refusal leaves all as it was
  pub refused_leaves : {number place code : ℕ} → with_room room o ≡ refused number place → code ≡ number * 2 ^ 32 + place → Promised room o code old old view view
  unfolding result_of output numbers viewed ◌>>=◌
  refused_leaves h c = rw h (c, (refl, refl))

  -- what is accepted is written
  pub accepted_leaves : {w : Written} (out : List ℕ) (shown : List ℤ) → with_room room o ≡ ok w → out ≡ w.bytes ++ drop (length w.bytes) old
      → shown ≡ view_numbers w.view ++ drop view_size view → Promised room o 0 old out view shown
  unfolding result_of output numbers viewed ◌>>=◌
  accepted_leaves out shown h a b = rw h (refl, (a, b))

-- with no room for the view a call refuses, by what it decides without writing
pub short : (room : ℕ) (o : Outcome Written) (v : Result (Unit {0}) Refusal) (old : List ℕ) (view : List ℤ) {code : ℕ} → room < view_size → judged v ≡ decided o → code ≡ result_of (with_room 0 (judged v))
    → Promised room o code old old view view
unfolding result_of view_size decided ◌>>=◌
short room (ok w) v old view l d c = refused_leaves room (ok w) old view (no_room room (ok w) l refl) (c ∙ rw (no_room 0 (judged v) (omega arith) d))
short room (refused number place) v old view l d c = refused_leaves room (refused number place) old view (own_refusal room (refused number place) refl) (c ∙ rw (own_refusal 0 (judged v) d))

-- with room for it, what the call answers is shown
pub answers : (room : ℕ) (o : Outcome Written) (old out : List ℕ) (view shown : List ℤ) (r : Result View Refusal) {code : ℕ} → view_size ≤ room → told r ≡ viewed o → out ≡ output o old
    → code ≡ result_of (with_room room (told r)) → shown ≡ numbers (with_room room (told r)) view → Promised room o code old out view shown
unfolding result_of output numbers viewed ◌>>=◌
answers room (ok w) old out view shown r l is a b c =
    let f = has_room room (told r) l is in
    rw (has_room room (ok w) l refl) (b ∙ rw f, (a, c ∙ rw f))
answers room (refused number place) old out view shown r l is a b c =
    let f = own_refusal room (told r) is in
    rw (own_refusal {A = Written} room (refused number place) refl) (b ∙ rw f, (a, c ∙ rw f))
