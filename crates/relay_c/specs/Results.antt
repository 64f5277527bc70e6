-- What C and Rust rely on of the results of the five calls.
-- Assumes nothing: these are definitions.
use Rattle.std.specs.Prelude.{ℕ, ◌/◌, ◌%◌, ◌^◌, ◌≡◌, List, ◌↔◌, ℤ}
use Rattle.wire.specs.Outcome.{Outcome, ok, refused}
use Rattle.opmsg.specs.Read.{read}
use Rattle.message.specs.Forward.{forward}
use Rattle.message.specs.Write.{write}
use Rattle.message.specs.Append.{append}
use Rattle.message.specs.Move.{move}
use Rattle.relay_c_results.specs.Interface.{with_room, result_of}
use Rattle.opmsg.specs.declared.Edition.{Edition}

pub record Told {A : Type 0} (o : Outcome A) : Type 0 where
  -- The result is 0 exactly where the call accepts.
  pub zero_accepts : (result_of o ≡ 0) ↔ ((a : A) × (o ≡ ok a))
  -- Otherwise its upper half is the refusal's number, and its lower half the place.
  pub halves : (number place : ℕ) → o ≡ refused number place → (result_of o / 2 ^ 32 ≡ number) × (result_of o % 2 ^ 32 ≡ place)

-- `shown` is the room for the view's numbers
pub record ResultsTell : Type 0 where
  pub reads : (e : Edition) (s : List ℕ) (shown : ℕ) → Told (with_room shown (read e s))
  pub forwards : (e : Edition) (s : List ℕ) (room shown : ℕ) → Told (with_room shown (forward e s room))
  pub writes : (e : Edition) (request_id response_to : ℤ) (flags : ℕ) (body : List ℕ) (room shown : ℕ) → Told (with_room shown (write e request_id response_to flags body room))
  pub appends : (e : Edition) (s identifier documents : List ℕ) (room shown : ℕ) → Told (with_room shown (append e s identifier documents room))
  pub moves : (e : Edition) (s : List ℕ) (behind room shown : ℕ) → Told (with_room shown (move e s behind room))
