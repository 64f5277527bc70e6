-- What the definition says from the start is what it says from byte i on, in some number of turns that is enough.
use Rattle.std.proofs.Common.{◌≡◌, ℕ, ◌+◌, ◌-◌, ◌≤◌, length, take, drop}
use Rattle.wire.specs.Walk.{walk}
use Rattle.opmsg.specs.Sections.{next_document}
use Rattle.opmsg_documents.proofs.Turns.{run_of}
use Rattle.opmsg_documents.proofs.documents.Given as goal

abbrev pub invariant-loop-i : goal.invariant-loop-i
invariant-loop-i l =
    (turns : ℕ) × (l.i ≤ length l.s) × (length l.s - l.i ≤ turns) × (l.documents ≤ l.i)
    × (walk next_document (length l.s) l.at l.s (run_of 0 l.count) ≡ walk next_document turns (l.at + l.i) (take (length l.s - l.i) (drop l.i l.s)) (run_of l.documents l.elements))

abbrev pub decreases-loop-i : goal.decreases-loop-i
decreases-loop-i l = length l.s - l.i
