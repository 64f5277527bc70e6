-- What is left of the operator, of the bits that are left, takes r to the result.
use Rattle.std.proofs.Common.{◌≡◌, drop}
use lib.Bits.{bit_xor}
use Rattle.crc32c_refresh.specs.Operator.{apply}
use Rattle.crc32c_refresh.proofs.operator.apply.Given as goal

abbrev pub invariant-loop-image : goal.invariant-loop-image
invariant-loop-image l = bit_xor l.r (apply (drop l.image-index l.fn.m) l.rest) ≡ apply l.fn.m l.v
