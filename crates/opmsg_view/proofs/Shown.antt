-- A view is the definition's if each of its fields is.
-- Assumes nothing.
use Prim.Native.Nat.{ℕ}
use mathlib.Core.Path.{◌≡◌}
use mathlib.Core.List.{List}
use Rattle.wire.specs.Bytes.{word_at, signed}
use Rattle.opmsg.specs.Flags.{kept}
use Rattle.opmsg.specs.Layout.{message_length, flag_word}
use Rattle.opmsg.specs.Sections.{Parts}
use Rattle.opmsg.specs.View.{padded, view_of}
use Rattle.opmsg.specs.declared.Edition.{Edition}
use Rattle.opmsg.specs.declared.View.{View}

pub view_is : (e : Edition) (s : List ℕ) (p : Parts) (v : View)
    → v.length ≡ message_length s → v.request_id ≡ signed (word_at 4 s) → v.response_to ≡ signed (word_at 8 s) → v.flags ≡ kept e.bits (flag_word s)
    → padded p.sections ≡ v.entries → p.elements ≡ v.elements
    → v ≡ view_of e s p
unfolding view_of
view_is e s p v length-is request-is response-is flags_is entries_is elements_is =
    rw (view_of, ← length-is, ← request-is, ← response-is, ← flags_is, entries_is, elements_is)
