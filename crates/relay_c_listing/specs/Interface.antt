-- The reader of stored listings for C and Rust: its answer is two numbers.
-- Assumes nothing: these are definitions.
use Rattle.std.specs.Prelude.{ℕ, List, ◌∷◌, drop, ℤ, pos, ltb}
use Rattle.wire.specs.Outcome.{Outcome, ok, refused, refuse, ◌>>=◌}
use Rattle.listing_stored.specs.Stored.{Told}

-- room for the two numbers is asked after the reader's own refusal
unfoldable pub with_answer : ℕ → Outcome Told → Outcome Told
with_answer room o = do
  t ← o
  _ ← refuse 25 0 (ltb room 2)
  ok t

-- the lent numbers after the call: version, messages and then what stood there, or all as it was
unfoldable pub listing_numbers : Outcome Told → List ℤ → List ℤ
listing_numbers (ok t) old = pos t.version ∷ pos t.messages ∷ drop 2 old
listing_numbers (refused number place) old = old
