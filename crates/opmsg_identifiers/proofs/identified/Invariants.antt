-- The loop's invariant: the text is among the identifiers of all entries if it is among those from this one on.
use Rattle.std.proofs.Common.{◌≡◌}
use Rattle.opmsg.specs.Names.{among, texts}
use Rattle.opmsg_identifiers.proofs.Table.{left}
use Rattle.opmsg_identifiers.proofs.identified.Given as goal

abbrev pub invariant-loop-entry : goal.invariant-loop-entry
invariant-loop-entry l = among (texts (left l.xs l.entries 0)) l.text ≡ among (texts (left l.xs l.entries l.entry-index)) l.text
