-- What a call decides where nothing is to be written.
-- Assumes nothing: these are definitions.
use Rattle.wire.specs.Outcome.{Outcome, ok, ◌>>=◌}

-- that it accepts, or its refusal
unfoldable pub decided : {A : Type 0} → Outcome A → Outcome (Unit {0})
decided o = do
  _ ← o
  ok tt
