-- What callers rely on of a refusal, whatever call gives it.
-- Assumes nothing: these are definitions.
use Rattle.std.specs.Prelude.{ℕ, ◌^◌, ◌≤◌, ◌<◌, ◌≡◌, List, ℤ}
use Rattle.wire.specs.Outcome.{Outcome, refused}
use Rattle.opmsg.specs.Read.{read}
use Rattle.message.specs.Forward.{forward}
use Rattle.message.specs.Write.{write}
use Rattle.message.specs.Append.{append}
use Rattle.message.specs.Move.{move}
use Rattle.opmsg.specs.declared.Edition.{Edition}

-- a refusal has one of the numbers of document 01 and its requests, which are 1 to 25, 27 and 28, none past the last that a call gives,
-- and a place of 32 bits
abbrev pub Bounded : {A : Type 0} → (last : ℕ) → Outcome A → Type 0
Bounded last o = (number place : ℕ) → o ≡ refused number place → (1 ≤ number) × (number ≤ last) × ¬ (number ≡ 26) × (place < 2 ^ 32)

-- each refusal of the five calls is such; 28 is the move's alone
pub record RefusalsBounded : Type 0 where
  pub reads : (e : Edition) (s : List ℕ) → Bounded 27 (read e s)
  pub forwards : (e : Edition) (s : List ℕ) (room : ℕ) → Bounded 27 (forward e s room)
  pub writes : (e : Edition) (request_id response_to : ℤ) (flags : ℕ) (body : List ℕ) (room : ℕ) → Bounded 27 (write e request_id response_to flags body room)
  pub appends : (e : Edition) (s identifier documents : List ℕ) (room : ℕ) → Bounded 27 (append e s identifier documents room)
  pub moves : (e : Edition) (s : List ℕ) (behind room : ℕ) → Bounded 28 (move e s behind room)
