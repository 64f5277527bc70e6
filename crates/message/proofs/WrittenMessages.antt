-- What forward, write, append and move write is a message that the same edition reads, and no byte more.
-- Assumes nothing.
use Prim.Native.Nat.{ℕ, ◌^◌, ◌<◌}
use mathlib.Core.Path.{◌≡◌, refl, sym, ◌∙◌}
use mathlib.Core.List.{List, ◌∷◌}
use native.Mathlib.Omega.{arith}
use lib.ListN.{length}
use lib.IntN.{ℤ}
use borrow.Author.Tests.{ltb-false}
use Rattle.wire.specs.Bytes.{Bytes, word_at, le32}
use Rattle.wire.proofs.Bytes.{word_le32}
use Rattle.wire.proofs.Outcome.{ok_same, bound, passed}
use Rattle.opmsg.specs.Layout.{max_length, message_length}
use Rattle.opmsg.specs.Read.{read}
use Rattle.opmsg.specs.declared.Edition.{Edition}
use Rattle.opmsg.proofs.Limits.{max_length_small}
use Rattle.opmsg.proofs.Accepted.{reads}
use Rattle.message.specs.Message.{whole_length}
use Rattle.message.specs.Forward.{forward}
use Rattle.message.specs.Write.{written, write}
use Rattle.message.specs.Append.{append}
use Rattle.message.specs.Move.{moved, move}
use Rattle.message.specs.WrittenMessages.{WritesMessage, WritesMessages}
use Rattle.message.proofs.Message.{message_word, message_whole}
use Rattle.message.proofs.Forwarded.{view_flags_lt, view_length, forwarded_length, own_forward}
use Rattle.message.proofs.Appended.{appended_seen}
use Rattle.message.proofs.Moved.{moved_seen}

forwards : (e : Edition) (s : List ℕ) (room : ℕ) → WritesMessage e (forward e s room)
unfolding forward
forwards e s room w h =
    bound (read e s) _ h λ v k rest.
    rw (← ok_same (passed _ _ _ _ rest).1) (own_forward e s v k, forwarded_length e s v k ∙ sym (view_length e s v k))

-- a message that is written states its length
written_length : (i j : ℤ) (flags : ℕ) (body : List ℕ) → whole_length flags (0 ∷ body) < 2 ^ 32 → length (written i j flags body) ≡ message_length (written i j flags body)
unfolding written word_at le32
written_length i j flags body l =
    message_whole _ flags (0 ∷ body) refl ∙ sym (message_word _ flags (0 ∷ body) refl 0 (omega arith) ∙ word_le32 (whole_length flags (0 ∷ body)) _ l)

writes : (e : Edition) (request_id response_to : ℤ) (flags : ℕ) (body : List ℕ) (room : ℕ) → WritesMessage e (write e request_id response_to flags body room)
unfolding write
writes e i j flags body room w h =
    let c1 = passed _ _ _ _ h in
    let c2 = passed _ _ _ _ c1.1 in
    let c3 = passed _ _ _ _ c2.1 in
    let c4 = passed _ _ _ _ c3.1 in
    let c5 = passed _ _ _ _ c4.1 in
    let m = written i j flags body in
    let limit = ltb-false max_length (whole_length flags (0 ∷ body)) c2.0 in
    bound (read e m) _ c5.1 λ v k rest.
    rw (← ok_same rest) (k, written_length i j flags body (omega (arith, max_length_small)) ∙ sym (view_length e m v k))

appends : (e : Edition) (s identifier documents : List ℕ) (room : ℕ) → WritesMessage e (append e s identifier documents room)
unfolding append
appends e s identifier documents room w h =
    bound (read e s) _ h λ v k rest.
    let c1 = passed _ _ _ _ rest in
    let c2 = passed _ _ _ _ c1.1 in
    let c3 = passed _ _ _ _ c2.1 in
    let c4 = passed _ _ _ _ c3.1 in
    let c5 = passed _ _ _ _ c4.1 in
    let c6 = passed _ _ _ _ c5.1 in
    let limit = ltb-false max_length _ c5.0 in
    bound (read e _) _ c6.1 λ u r same.
    rw (← ok_same same) (r, (appended_seen s (reads k).sound v.flags _ (view_flags_lt e s v k) limit).whole ∙ sym (view_length e _ u r))

moves : (e : Edition) (s : List ℕ) (behind room : ℕ) → Bytes s → WritesMessage e (move e s behind room)
unfolding move
moves e s behind room b w h =
    bound (read e s) _ h λ v k rest.
    let c1 = passed _ _ _ _ rest in
    let c2 = passed _ _ _ _ c1.1 in
    bound (read e (moved s v behind)) _ c2.1 λ u r same.
    rw (← ok_same same) (r, (moved_seen e s v b k behind).whole ∙ sym (view_length e (moved s v behind) u r))

pub writes_messages : WritesMessages
writes_messages = record { forwards = forwards; writes = writes; appends = appends; moves = moves }
