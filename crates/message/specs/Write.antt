-- Writing a message from its ids, flag word and body.
-- Assumes nothing: these are definitions.
use Rattle.std.specs.Prelude.{ℕ, not, List, ◌∷◌, ◌++◌, length, ℤ, ltb, eqb}
use Rattle.wire.specs.Outcome.{Outcome, ok, refuse, ◌>>=◌}
use Rattle.wire.specs.Bytes.{word, le32, bits32}
use Rattle.opmsg.specs.Flags.{all_known}
use Rattle.opmsg.specs.Layout.{max_length}
use Rattle.opmsg.specs.Read.{read}
use Rattle.message.specs.Message.{message, whole_length, Written}
use Rattle.opmsg.specs.declared.Edition.{Edition}

-- header, flag word, kind 0, body, and checksum by bit 0
unfoldable pub written : (request_id response_to : ℤ) → (flags : ℕ) → List ℕ → List ℕ
written request_id response_to flags body =
    message (le32 (whole_length flags (0 ∷ body)) ++ (le32 (bits32 request_id) ++ (le32 (bits32 response_to) ++ le32 2013))) flags (0 ∷ body)

unfoldable pub write : Edition → (request_id response_to : ℤ) → (flags : ℕ) → List ℕ → (room : ℕ) → Outcome Written
write e request_id response_to flags body room = do
  _ ← refuse 8 16 (not (all_known 32 e.bits flags))
  _ ← refuse 2 0 (ltb max_length (whole_length flags (0 ∷ body)))
  _ ← refuse 25 0 (ltb room (whole_length flags (0 ∷ body)))
  _ ← refuse 15 21 (ltb (length body) 4)
  _ ← refuse 15 21 (not (eqb (word body) (length body)))
  let m = written request_id response_to flags body
  v ← read e m
  ok (record { view = v; bytes = m })
