-- What it is to read exactly the documents of `Grammar.antt`: bytes that are one are read, and no others are.
-- `agree` of `proofs/Grammar.antt` proves it of the reader of `Document.antt`. Assumes nothing: these are definitions.
use Rattle.std.specs.Prelude.{ℕ, ◌+◌, ◌≤◌, max, ◌≡◌, ◌↔◌, List, length, take}
use Rattle.wire.specs.Outcome.{ok}
use Rattle.wire.specs.Bytes.{Bytes}
use Rattle.wire.specs.Walk.{Step, Reader}
use Rattle.bson_elements.specs.Element.{max_elements}

-- the first r .size bytes of xs are a D that holds so many elements, these are added to the count, and the count stays within the limit
-- (one that began past the limit grows no more)
pub record Read (D : List ℕ → (elements : ℕ) → Type 0) (xs : List ℕ) (count : ℕ) (r : Step ℕ) : Type 0 where
  pub fits : r.size ≤ length xs
  pub held : ℕ
  pub is : D (take r.size xs) held
  pub counted : r.state ≡ count + held
  pub limited : r.state ≤ max count max_elements

-- in bytes, a reader answers r exactly when xs begin with a D and r is what is to be read of it; at any place, and with any count before it
abbrev pub Exact : (List ℕ → (elements : ℕ) → Type 0) → Reader ℕ → Type 0
Exact D reader = (at : ℕ) (xs : List ℕ) (count : ℕ) (r : Step ℕ) → Bytes xs → (reader at xs count ≡ ok r) ↔ Read D xs count r
