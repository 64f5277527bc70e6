-- Documents at all levels: how far they reach and how many elements they hold, or the first fault from left to right.
-- A place is counted in the message; `at` is the place of the first byte of xs. Assumes nothing: these are definitions.
use Rattle.std.specs.Prelude.{ℕ, zero, suc, ◌+◌, ◌-◌, not, List, Result, Ok, Err, length, get_or, take, drop, ltb, eqb}
use Rattle.wire.specs.Outcome.{Outcome, ok, refused, refuse, ◌>>=◌}
use Rattle.wire.specs.Bytes.{word, under}
use Rattle.wire.specs.Walk.{Step, step, Reader, walk}
use Rattle.bson_elements.specs.Element.{element}
use Rattle.refusal.specs.declared.Refusal.{Refusal}
use Rattle.refusal.specs.Told.{number}
use Rattle.bson.specs.declared.Walk.{Walk}

-- the limit of document 01
unfoldable pub max_levels : ℕ
max_levels = 32

-- the length of the document at the start of xs, which a zero ends
unfoldable pub frame : ℕ → List ℕ → Outcome ℕ
frame at xs = do
  _ ← refuse 15 at (ltb (length xs) 4)
  let n = word xs
  _ ← refuse 15 at (under 5 n)
  _ ← refuse 15 at (ltb (length xs) n)
  _ ← refuse 16 (at + (n - 1)) (not (eqb (get_or xs (n - 1) 0) 0))
  ok n

-- the document at the start of xs, where so many levels may still be entered
unfoldable pub document_at : (levels : ℕ) → Reader ℕ
document_at zero at xs count = refused 20 at
document_at (suc levels) at xs count = do
  n ← frame at xs
  counted ← walk (element (document_at levels)) n (at + 4) (take (n - 5) (drop 4 xs)) count
  step n counted

-- the answer of a reader of documents, in document 01's terms
abbrev pub told : Result Walk Refusal → Outcome (Step ℕ)
told (Ok w) = step w.size w.count
told (Err r) = refused (number r.reason) r.place
