-- n and the digits left spell what all digits spell.
use Rattle.std.proofs.Common.{◌≡◌, drop}
use Rattle.listing_fields.specs.Numbers.{spelled}
use Rattle.listing_fields.proofs.digits.spelled.Given as goal

abbrev pub invariant-loop-x : goal.invariant-loop-x
invariant-loop-x l = spelled 0 l.f ≡ spelled l.n (drop l.x-index l.f)
