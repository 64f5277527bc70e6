-- The refreshed checksum is that of the forwarded message.
-- Assumes nothing.
use Prim.Native.Nat.{ℕ, ◌-◌}
use mathlib.Core.Bool.{true}
use mathlib.Core.Path.{◌≡◌, sym, ap, ap₂, ◌∙◌}
use mathlib.Core.List.{List, ◌++◌}
use native.Mathlib.Omega.{arith}
use lib.ListN.{length, take, drop}
use Rattle.wire.specs.Outcome.{ok}
use Rattle.wire.specs.Bytes.{Bytes, word_at, le32}
use Rattle.wire.proofs.Bytes.{bytes_take, bytes_drop, word_at_lt}
use Rattle.crc32c.specs.Crc.{crc_of}
use Rattle.crc32c_refresh.specs.Refresh.{refreshed}
use Rattle.crc32c_refresh.proofs.Refreshes.{refreshes}
use Rattle.opmsg.specs.Flags.{checksummed}
use Rattle.opmsg.specs.Layout.{message_length, flag_word, sections_end, section_bytes}
use Rattle.opmsg.specs.Read.{read}
use Rattle.opmsg.proofs.Accepted.{reads}
use Rattle.message.specs.Message.{checksum, message}
use Rattle.message.specs.Forward.{forwarded}
use Rattle.message.specs.Refreshed.{new_checksum, ForwardRefreshes}
use Rattle.opmsg.specs.declared.Edition.{Edition}
use Rattle.opmsg.specs.declared.View.{View}
use Rattle.message.proofs.Message.{size_with, checksum_with, right_checksum, stated_end}
use Rattle.message.proofs.Forwarded.{view_flags_lt, view_bit0}
use Rattle.message.proofs.Whole.{before_end}

module _ (e : Edition) (s : List ℕ) (v : View) (b : Bytes s) (h : read e s ≡ ok v) (c : checksummed (flag_word s) ≡ true) where
  ends : sections_end s ≡ message_length s - 4
  unfolding sections_end
  ends = rw (size_with (flag_word s) c)

  old : word_at (message_length s - 4) s ≡ crc_of (take 16 s ++ (le32 (flag_word s) ++ section_bytes s))
  old = right_checksum s (reads h).sound.checksum c ∙ ap crc_of (ap (λ (n : ℕ). take n s) (sym ends) ∙ sym (before_end e s v h b))

  bytes_of : Bytes (section_bytes s)
  unfolding section_bytes
  bytes_of = bytes_take (sections_end s - 20) (drop 20 s) (bytes_drop 20 s b)

  following : length (section_bytes s) ≡ message_length s - 24
  following = omega (arith, ends, stated_end s (reads h).sound)

  new : crc_of (take 16 s ++ (le32 v.flags ++ section_bytes s)) ≡ new_checksum s v
  unfolding new_checksum
  new =
      sym (refreshes (take 16 s) (section_bytes s) (flag_word s) v.flags (bytes_take 16 s b) bytes_of (word_at_lt 16 s b) (view_flags_lt e s v h))
      ∙ ap₂ (λ (c n : ℕ). refreshed c (flag_word s) v.flags n) (sym old) following

  pub new_checksum_lem : checksum v.flags (take 16 s ++ (le32 v.flags ++ section_bytes s)) ≡ le32 (new_checksum s v)
  new_checksum_lem = checksum_with v.flags _ (view_bit0 e s v h ∙ c) ∙ ap le32 new

  forward_refreshed : forwarded s v ≡ (take 16 s ++ (le32 v.flags ++ section_bytes s)) ++ le32 (new_checksum s v)
  unfolding forwarded message
  forward_refreshed = ap (λ (l : List ℕ). (take 16 s ++ (le32 v.flags ++ section_bytes s)) ++ l) new_checksum_lem

pub forward_refreshes : ForwardRefreshes
forward_refreshes = forward_refreshed
