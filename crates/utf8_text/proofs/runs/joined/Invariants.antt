-- Where nothing is astray so far, each byte that was passed has behind it what may stand there.
use Rattle.std.proofs.Common.{◌≡◌, false}
use Rattle.utf8_text.specs.Inner.{Joined}
use Rattle.utf8_text.proofs.runs.joined.Given as goal

abbrev pub invariant-loop-k : goal.invariant-loop-k
invariant-loop-k l = l.any ≡ false → Joined l.k l.s
