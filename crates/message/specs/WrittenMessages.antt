-- What callers rely on of what is written, whatever call writes it.
-- Assumes nothing: these are definitions.
use Rattle.std.specs.Prelude.{ℕ, ◌≡◌, List, length, ℤ}
use Rattle.wire.specs.Outcome.{Outcome, ok}
use Rattle.wire.specs.Bytes.{Bytes}
use Rattle.opmsg.specs.Read.{read}
use Rattle.message.specs.Message.{Written}
use Rattle.message.specs.Forward.{forward}
use Rattle.message.specs.Write.{write}
use Rattle.message.specs.Append.{append}
use Rattle.message.specs.Move.{move}
use Rattle.opmsg.specs.declared.Edition.{Edition}

-- what is written is a message, no byte more: the same edition reads it, and shows what the call answered
abbrev pub WritesMessage : Edition → Outcome Written → Type 0
WritesMessage e o = (w : Written) → o ≡ ok w → (read e w.bytes ≡ ok w.view) × (length w.bytes ≡ w.view.length)

-- so with each of the four calls that write
pub record WritesMessages : Type 0 where
  pub forwards : (e : Edition) (s : List ℕ) (room : ℕ) → WritesMessage e (forward e s room)
  pub writes : (e : Edition) (request_id response_to : ℤ) (flags : ℕ) (body : List ℕ) (room : ℕ) → WritesMessage e (write e request_id response_to flags body room)
  pub appends : (e : Edition) (s identifier documents : List ℕ) (room : ℕ) → WritesMessage e (append e s identifier documents room)
  pub moves : (e : Edition) (s : List ℕ) (behind room : ℕ) → Bytes s → WritesMessage e (move e s behind room)
