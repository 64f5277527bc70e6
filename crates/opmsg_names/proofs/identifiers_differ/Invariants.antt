-- The loop's invariant: the identifiers among the entries before this one differ, lead to no name of the elements, and their marks are made.
use Rattle.opmsg.specs.Names.{names_of}
use Rattle.opmsg.specs.Dotted.{found}
use Rattle.opmsg_body_names.proofs.Distinct.{Met}
use Rattle.opmsg_identifiers.proofs.Table.{left, count}
use Rattle.opmsg_names.proofs.identifiers_differ.Given as goal

abbrev pub invariant-loop-k : goal.invariant-loop-k
invariant-loop-k l = Met 24 (found l.elements) (names_of l.elements) (left l.xs l.entries 0) (count l.xs l.entries l.k) l.marks
