-- Laws of the room for an answer, and of its two numbers.
-- Assumes nothing.
use Prim.Native.Nat.{ℕ, ◌^◌, ◌≤◌, ◌<◌}
use mathlib.Core.Path.{◌≡◌, refl}
use mathlib.Core.List.{List, [], ◌∷◌}
use lib.IntN.{ℤ, pos}
use lib.ListN.{length, drop, set}
use lib.Seq.{sets-eq}
use mir.Syntax.{w64}
use mir.Val.{to_z}
use borrow.Author.Tests.{lt-ltb, le-ltb}
use Rattle.wire.specs.Outcome.{ok, refused, refuse, ◌>>=◌}
use Rattle.listing_stored.specs.Stored.{Told}
use Rattle.relay_c_listing.specs.Interface.{with_answer}

pub no_room : (n : ℕ) (t : Told) → n < 2 → with_answer n (ok t) ≡ refused 25 0
unfolding with_answer ◌>>=◌ refuse
no_room n t h = rw (with_answer, lt-ltb n 2 h)

pub room : (n : ℕ) (t : Told) → 2 ≤ n → with_answer n (ok t) ≡ ok t
unfolding with_answer ◌>>=◌ refuse
room n t h = rw (with_answer, le-ltb n 2 h)

pub refused_first : (n number place : ℕ) → with_answer n (refused number place) ≡ refused number place
unfolding with_answer ◌>>=◌
refused_first n number place = refl

-- a number of 63 bits is the same as a signed one of 64
pub same_signed : (n : ℕ) → n < 2 ^ 63 → to_z w64 n ≡ pos n
same_signed n h = simp (lt-ltb n (2 ^ 63) h)

pub two_stored : (old : List ℤ) (a b : ℤ) → 2 ≤ length old → set (set old 0 a) 1 b ≡ a ∷ b ∷ drop 2 old
two_stored old a b l = sets-eq (a ∷ b ∷ []) old 0 l
