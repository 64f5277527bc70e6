-- The recursion's measure is the length of the text: what is followed within a document lacks the first name and the dot behind it.
-- The loop's invariant: the text is found if it is found from byte i on.
use Rattle.std.proofs.Common.{◌-◌, length}
use Rattle.opmsg_dotted.proofs.Follow.{Sought}
use Rattle.opmsg_dotted.proofs.+found.Given as goal

abbrev pub decreases-found : goal.decreases-found
decreases-found l = length l.text.now

abbrev pub invariant-loop-i : goal.invariant-loop-i
invariant-loop-i l = Sought l.xs l.text l.i

abbrev pub decreases-loop-i : goal.decreases-loop-i
decreases-loop-i l = length l.xs - l.i
