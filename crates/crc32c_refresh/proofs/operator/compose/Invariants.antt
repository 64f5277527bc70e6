-- The first numbers are made, and the others are still those of k.
use Rattle.std.proofs.Common.{◌≡◌}
use Rattle.crc32c_refresh.proofs.Turns.{made}
use Rattle.crc32c_refresh.proofs.operator.compose.Given as goal

abbrev pub invariant-loop-image : goal.invariant-loop-image
invariant-loop-image l = l.image-items ≡ made l.m l.fn.k l.image-index
