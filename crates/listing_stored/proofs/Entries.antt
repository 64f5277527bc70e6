-- Laws of places.
-- Assumes nothing.
use Rattle.std.proofs.Common.{◌^◌, ◌≤◌, ◌≡◌, true, false, refl, arith}
use Rattle.listing_stored.specs.Inner.{position_of}
use Rattle.listing_stored.specs.declared.Place.{Place}

-- the offset of a place
pub near : (p : Place) → p.far ≡ false → (position_of p).offset ≡ p.offset
near p e = rw e refl

pub far : (p : Place) → p.far ≡ true → 2 ^ 64 ≤ (position_of p).offset
far p e = rw e (omega arith)
