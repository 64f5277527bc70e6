-- The loop's invariant: the elements before place i have names that differ, their marks are made, and where `document` is the end none of
-- them is a document. The measure is what is left of the bytes.
use Rattle.std.proofs.Common.{ℕ, ◌-◌, ◌≤◌, length}
use Rattle.opmsg_body_names.proofs.Elements.{NamesPassed, FlatTo}
use Rattle.opmsg_body_names.proofs.body_names.Given as goal

abbrev pub invariant-loop-i : goal.invariant-loop-i
invariant-loop-i l = (k : ℕ) × NamesPassed l.at l.xs l.i k l.marks × (length l.xs ≤ l.document → FlatTo l.xs l.i)

abbrev pub decreases-loop-i : goal.decreases-loop-i
decreases-loop-i l = length l.xs - l.i
