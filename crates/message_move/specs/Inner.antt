-- What the functions behind the call give: where sections go, and what the view shows of them.
-- Assumes nothing: these are definitions.
use Rattle.std.specs.Prelude.{ℕ, ◌+◌, true, false, List, [], ◌∷◌, map, ltb}
use Rattle.wire.specs.Outcome.{Outcome, refuse, ◌>>=◌}
use Rattle.opmsg.specs.Sections.{section_size}
use Rattle.opmsg.specs.View.{padded}
use Rattle.opmsg.specs.declared.Section.{Section}
use Rattle.opmsg.specs.declared.Entry.{Entry}
use Rattle.opmsg.specs.declared.View.{View}
use Rattle.message.specs.Moving.{placed_from}

-- the entry of a sequence with so many sequences before it, where the body's is behind a number of them
unfoldable pub spot : (count behind : ℕ) → ℕ
spot count behind = elim (ltb count behind) [ true ↦ count | false ↦ count + 1 ]

-- how many bytes sections take together
unfoldable pub total_size : List Section → ℕ
total_size [] = 0
total_size (q ∷ qs) = section_size q + total_size qs

-- what entries say
abbrev pub said : List Entry → List Section
said entries = map (λ x. x.section) entries

-- the view v of a message with other sections, which the entries say, one behind the other
unfoldable pub with_sections : View → List Entry → View
with_sections v entries = record {
  length = v.length;
  request_id = v.request_id;
  response_to = v.response_to;
  flags = v.flags;
  entries = padded (placed_from 20 (said entries));
  elements = v.elements;
}

-- the checks of a move behind reading, for a message of so many bytes and sequences
unfoldable pub movable : (count behind length room : ℕ) → Outcome (Unit {0})
movable count behind length room = do
  _ ← refuse 28 0 (ltb count behind)
  refuse 25 0 (ltb room length)
