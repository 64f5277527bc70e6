-- Each call reads fewer bytes. In the loop, a document is what it says of its elements from byte i on, in some number of turns that is enough.
use Rattle.std.proofs.Common.{◌≡◌, ℕ, ◌+◌, ◌-◌, ◌≤◌, ◌<◌, length, take, drop}
use Rattle.wire.specs.Outcome.{◌>>=◌}
use Rattle.wire.specs.Walk.{step, walk}
use Rattle.bson_elements.specs.Element.{element}
use Rattle.bson.specs.Document.{document_at}
use Rattle.bson.proofs.documents.+document_at_element.Given as goal

abbrev pub decreases-document_at : goal.decreases-document_at
decreases-document_at l = length l.s.now

abbrev pub decreases-element : goal.decreases-element
decreases-element l = length l.s.now

abbrev pub invariant-document_at-loop-i : goal.invariant-document_at-loop-i
invariant-document_at-loop-i l =
    (turns : ℕ) × (4 ≤ l.i) × (l.i ≤ l.last) × (l.last < length l.s) × (l.last - l.i ≤ turns)
    × (document_at l.levels l.at l.s l.count ≡ (walk (element (document_at (l.levels - 1))) turns (l.at + l.i) (take (l.last - l.i) (drop l.i l.s)) l.total >>= step l.size))

abbrev pub decreases-document_at-loop-i : goal.decreases-document_at-loop-i
decreases-document_at-loop-i l = l.last - l.i
