-- What it is to read exactly the messages of `Grammar.antt`: bytes that begin with one are accepted, and no others are; and what is shown is what it shows.
-- `reads_messages` of `proofs/Reading.antt` proves it of `read`. Assumes nothing: these are definitions.
use Rattle.std.specs.Prelude.{ℕ, ◌≡◌, ◌↔◌, List, ◌++◌, take}
use Rattle.wire.specs.Outcome.{ok}
use Rattle.wire.specs.Bytes.{Bytes}
use Rattle.opmsg.specs.Read.{read}
use Rattle.message.specs.Editions.{Accepts}
use Rattle.opmsg_grammar.specs.Grammar.{Message}
use Rattle.opmsg.specs.declared.Edition.{Edition}
use Rattle.opmsg.specs.declared.View.{View}

-- the bytes s begin with a message
pub record Begins (e : Edition) (s : List ℕ) : Type 0 where
  pub message : List ℕ
  pub rest : List ℕ
  pub view : View
  pub joined : s ≡ message ++ rest
  pub is : Message e message view

pub record ReadsMessages : Type 0 where
  -- a relay accepts exactly what begins with a message
  pub accepts : (e : Edition) (s : List ℕ) → Bytes s → Accepts e s ↔ Begins e s
  -- and the view that it shows is exactly that of the message
  pub shows : (e : Edition) (s : List ℕ) (v : View) → Bytes s → (read e s ≡ ok v) ↔ Message e (take v.length s) v
  -- no bytes begin with two messages, and a message has one view
  pub unambiguous : (e : Edition) (m n a b : List ℕ) (v w : View) → Message e m v → Message e n w → m ++ a ≡ n ++ b → (m ≡ n) × (v ≡ w)
