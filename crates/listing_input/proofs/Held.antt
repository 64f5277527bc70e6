-- Laws of the bytes at hand: how many there are, and what they are once more were read.
-- Assumes nothing.
use Prim.Native.Nat.{ℕ, ◌+◌, ◌-◌, ◌≤◌}
use mathlib.Core.Path.{◌≡◌, ap, ◌∙◌}
use mathlib.Core.List.{List, ◌++◌}
use native.Mathlib.Omega.{arith}
use lib.ListN.{length, take, drop, length-drop}
use lib.Seq.{take-add, length-take-le}
use Rattle.listing_input.specs.Inner.{between, Lie}

pub at_hand : {at end : ℕ} (buf : List ℕ) → Lie at end (length buf) → length (between at end buf) ≡ end - at
at_hand {at} {end} buf l = length-take-le (end - at) (drop at buf) (simp length-drop (omega (arith, l.order, l.within)))

-- what was kept, and what was read behind it
pub read_behind : (rest new : List ℕ) (kept to : ℕ) → take kept new ≡ rest → kept ≤ to → take to new ≡ rest ++ take (to - kept) (drop kept new)
read_behind rest new kept to front l =
    let sum : to ≡ kept + (to - kept) = omega arith in
    ap (λ (n : ℕ). take n new) sum ∙ take-add kept (to - kept) new ∙ rw front
