-- What the functions over fields tell.
-- Assumes nothing: these are definitions.
use Rattle.std.specs.Prelude.{ℕ, ◌^◌, ◌≤◌, Bool, not, ◌≡◌, List, Option, Some, None}
use Rattle.wire.specs.Outcome.{Outcome, ok, refused, refuse, ◌>>=◌}
use Rattle.listing_fields.specs.Numbers.{spelled}

-- what a field's reader answers, in line k
abbrev pub numbered : (k : ℕ) → Option ℕ → Outcome ℕ
numbered k (Some n) = ok n
numbered k None = refused 38 k

-- the number that digits spell, unless it has more than 64 bits
abbrev pub Spells : List ℕ → Option ℕ → Type 0
Spells f (Some n) = n ≡ spelled 0 f
Spells f None = 2 ^ 64 ≤ spelled 0 f

-- a test tells whether a check passes, in whichever line
abbrev pub Tells : {A : Type 0} → (ℕ → Outcome A) → Bool → Type 0
Tells check right = (k : ℕ) → (check k >>= λ _. ok tt) ≡ refuse 38 k (not right)
