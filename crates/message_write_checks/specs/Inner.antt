-- What a write decides before it stores anything, in document 01's terms.
-- Assumes nothing: these are definitions.
use Rattle.std.specs.Prelude.{ℕ, ◌-◌, ◌≤◌, false, not, List, [], ◌∷◌, ◌≡◌, ℤ, Result, Ok, Err}
use lib.ListN.{take, drop}
use Rattle.wire.specs.Outcome.{Outcome, ok, refused, ◌>>=◌}
use Rattle.wire.specs.Bytes.{word}
use Rattle.wire.specs.Walk.{Step}
use Rattle.bson.specs.Document.{document_at, max_levels}
use Rattle.opmsg.specs.Flags.{all_known}
use Rattle.opmsg.specs.Layout.{max_length}
use Rattle.opmsg.specs.Names.{never, distinct, element_names}
use Rattle.message.specs.Message.{whole_length}
use Rattle.message.specs.Write.{write}
use Rattle.opmsg.specs.declared.Edition.{Edition}
use Rattle.refusal.specs.Told.{number}
use Rattle.refusal.specs.declared.Refusal.{Refusal}

-- the checks before reading are passed
pub record Fit (e : Edition) (flags : ℕ) (body : List ℕ) (room : ℕ) : Type 0 where
  pub known : not (all_known 32 e.bits flags) ≡ false
  pub limit : whole_length flags (0 ∷ body) ≤ max_length
  pub holds : whole_length flags (0 ∷ body) ≤ room
  pub least : 4 ≤ lib.ListN.length body
  pub stated : word body ≡ lib.ListN.length body

-- they are, or one of them refuses, whatever the ids
abbrev pub Checked : Edition → (flags : ℕ) → (body : List ℕ) → (room : ℕ) → Result (Unit {0}) Refusal → Type 0
Checked e flags body room (Ok u) = Fit e flags body room
Checked e flags body room (Err r) = (request_id response_to : ℤ) → write e request_id response_to flags body room ≡ refused (number r.reason) r.place

-- the body at its place in the message, and check 23 of its names
unfoldable pub body_examined : List ℕ → Outcome (Step ℕ)
body_examined body = do
  d ← document_at max_levels 21 body 0
  _ ← distinct 23 never [] (element_names d.size 25 (take (d.size - 5) (drop 4 body)))
  ok d
