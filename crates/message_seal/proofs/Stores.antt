-- A message that is stored from left to right over what stood in an output.
-- Assumes nothing.
use Prim.Native.Nat.{ℕ, ◌+◌, ◌≤◌, ◌<◌}
use mathlib.Core.Path.{◌≡◌, refl, sym, ap, ap₂, ◌∙◌}
use mathlib.Core.List.{List, [], ◌∷◌, ◌++◌, append-nil}
use native.Mathlib.Omega.{arith}
use native.Mathlib.Nat.{add-zero}
use lib.ListN.{length, take, drop, set, length-append, length-drop, take-append-drop}
use lib.Seq.{take_at, drop-append-add, drop-drop, sets-eq}
use Rattle.wire.specs.Bytes.{put}
use Rattle.wire.proofs.Parts.{put_fits}
use Rattle.opmsg.specs.Layout.{checksum_size}
use Rattle.message.specs.Message.{checksum}
use Rattle.message.proofs.Message.{length_checksum}
use Rattle.message_seal.specs.Inner.{overwritten}

-- what stands there after the bytes p were stored over old
abbrev pub Stored : List ℕ → List ℕ → List ℕ → Type 0
Stored p old now = now ≡ overwritten p old

-- nothing is stored yet
pub stores_none : (old : List ℕ) → Stored [] old old
stores_none old = refl

-- nothing is changed by no bytes
pub put_none : (at : ℕ) (old : List ℕ) → at ≤ length old → put at [] old ≡ old
put_none at old h = put_fits at [] old (omega arith) ∙ rw (add-zero at, append-nil (take at old)) (take-append-drop at old)

-- it is as long as before
pub stored_length : (p old now : List ℕ) → length p ≤ length old → Stored p old now → length now ≡ length old
stored_length p old now h e = ap length e ∙ length-append p (drop (length p) old) ∙ rw length-drop (omega arith)

-- one part more
pub stores : (p x old now : List ℕ) (at : ℕ) → length p ≡ at → length p + length x ≤ length old → Stored p old now → Stored (p ++ x) old (put at x now)
stores p x old now at l h e =
    let long = stored_length p old now (omega arith) e in
    let first : take at now ≡ p = ap (take at) e ∙ take_at p (drop (length p) old) at l in
    let rest : drop (at + length x) now ≡ drop (length (p ++ x)) old =
    ap (drop (at + length x)) e ∙ ap (λ (n : ℕ). drop (n + length x) (p ++ drop (length p) old)) (sym l)
    ∙ drop-append-add p (drop (length p) old) (length x) ∙ drop-drop (length x) (length p) old ∙ ap (λ (n : ℕ). drop n old) (sym (length-append p x)) in
    put_fits at x now (omega arith) ∙ ap₂ (λ (a b : List ℕ). a ++ x ++ b) first rest

-- what is stored over them, they among it, is stored over what stood there
pub stores_over : (p x old now : List ℕ) → Stored p old now → overwritten (p ++ x) now ≡ overwritten (p ++ x) old
stores_over p x old now e =
    let rest : drop (length (p ++ x)) now ≡ drop (length (p ++ x)) old =
    rw (length-append p x) (ap (drop (length p + length x)) e ∙ drop-append-add p (drop (length p) old) (length x) ∙ drop-drop (length x) (length p) old) in
    ap (λ (b : List ℕ). p ++ x ++ b) rest

-- one byte more
pub stores_byte : (p old now : List ℕ) (x at : ℕ) → length p ≡ at → at < length old → Stored p old now → Stored (p ++ (x ∷ [])) old (set now at x)
stores_byte p old now x at l h e =
    let long = stored_length p old now (omega arith) e in
    let room : at + length (x ∷ []) ≤ length now = omega arith in
    sets-eq (x ∷ []) now at room ∙ sym (put_fits at (x ∷ []) now room) ∙ stores p (x ∷ []) old now at l (omega arith) e

-- the checksum of all that is stored, where the flag word has bit 0: then the message is whole
pub sealed : (m old now : List ℕ) (flags end : ℕ) → length m ≡ end → end + checksum_size flags ≤ length old → Stored m old now
    → Stored (m ++ checksum flags m) old (put end (checksum flags (take end now)) now)
sealed m old now flags end l h e =
    let first : take end now ≡ m = ap (take end) e ∙ take_at m (drop (length m) old) end l in
    rw first (stores m (checksum flags m) old now end l (omega (arith, length_checksum flags m)) e)
