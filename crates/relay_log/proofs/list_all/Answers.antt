-- The buffer has the length that a listing wants.
use Rattle.std.proofs.Common.{arith}
use Rattle.listing.specs.Next.{buffer_length}
use Rattle.relay_log.proofs.list_all.Goals as goal

pub list-messages-requires : goal.list-messages-requires
unfolding buffer_length
list-messages-requires g c = omega arith
