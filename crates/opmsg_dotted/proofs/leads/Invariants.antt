-- What is left of the text and of the name tells whether the one's first name is the other.
use Rattle.std.proofs.Common.{◌≡◌}
use Rattle.opmsg.specs.Names.{same_text}
use Rattle.opmsg_dotted.proofs.FirstName.{first_name, alike}
use Rattle.opmsg_dotted.proofs.leads.Given as goal

abbrev pub invariant-loop-i : goal.invariant-loop-i
invariant-loop-i l = same_text (first_name l.text) l.name ≡ alike l.text l.name l.i
