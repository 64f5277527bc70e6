-- Where no dot was seen so far, none was passed.
use Rattle.std.proofs.Common.{◌≡◌, false}
use Rattle.opmsg_dotted.specs.Inner.{Undotted}
use Rattle.opmsg_dotted.proofs.clear.Given as goal

abbrev pub invariant-loop-b : goal.invariant-loop-b
invariant-loop-b l = l.any ≡ false → Undotted l.b-index l.block
