-- The checksum that forwarding stores of a long message, refreshed from the old one, is that of the bytes before it.
-- Assumes nothing.
use Prim.Native.Nat.{ℕ, ◌-◌, ◌≤◌}
use mathlib.Core.Bool.{true}
use mathlib.Core.Path.{◌≡◌, sym, ap, ◌∙◌}
use mathlib.Core.List.{List}
use native.Mathlib.Omega.{arith}
use lib.ListN.{length, take}
use Rattle.wire.specs.Bytes.{Bytes, word_at, le32}
use Rattle.crc32c_refresh.specs.Refresh.{refreshed}
use Rattle.opmsg.specs.Flags.{checksummed}
use Rattle.opmsg.specs.Layout.{message_length, flag_word}
use Rattle.message.specs.Message.{checksum}
use Rattle.message.specs.Refreshed.{new_checksum}
use Rattle.message.proofs.Message.{size_with}
use Rattle.message.proofs.Forwarded.{view_bit0, view_length}
use Rattle.message.proofs.Refreshed.{new_checksum_lem}
use Rattle.message_forward_store.specs.Inner.{Reflagged}
use Rattle.message_forward_store.proofs.Forwards.{shown_bounds}

module _ (s out : List ℕ) (end flags : ℕ) (m : Reflagged s out end flags) where
  pub reseal_bounds : (20 ≤ end) × (end ≤ length s)
  reseal_bounds =
      let b = shown_bounds s m.size flags m.shown in
      (omega (arith, b, m.end_is), omega (arith, b, m.end_is))

  pub reseals : Bytes s → checksummed flags ≡ true → (sum : ℕ) → sum ≡ refreshed (word_at end s) (flag_word s) flags (end - 20)
      → checksum flags (take end out) ≡ le32 sum
  unfolding new_checksum
  reseals b set sum sum_is_lem =
      let shown = m.shown in
      let e = shown.edition in
      let v = shown.view in
      let before : checksummed (flag_word s) ≡ true = sym (view_bit0 e s v shown.reads) ∙ ap checksummed shown.flags_is ∙ set in
      let four = size_with flags set in
      let long : message_length s ≡ m.size = sym (view_length e s v shown.reads) ∙ shown.size_is in
      let place : message_length s - 4 ≡ end = omega (arith, four, long, m.end_is) in
      let following : message_length s - 24 ≡ end - 20 = omega (arith, four, long, m.end_is) in
      let new : new_checksum s v ≡ sum = rw (shown.flags_is, place, following) (sym sum_is_lem) in
      rw (m.stands, ← shown.flags_is, ← new) (new_checksum_lem e s v b shown.reads before)
