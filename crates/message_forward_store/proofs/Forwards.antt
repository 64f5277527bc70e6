-- The bytes that forwarding stores, part by part, are the forwarded message.
-- Assumes nothing.
use Prim.Native.Nat.{ℕ, ◌+◌, ◌-◌, ◌≤◌}
use mathlib.Core.Path.{◌≡◌, refl, sym, ap, ◌∙◌}
use mathlib.Core.List.{List, [], ◌++◌, append_assoc}
use native.Mathlib.Omega.{arith}
use lib.ListN.{length, take, drop, length-append, length-take}
use lib.Seq.{take_at}
use Rattle.wire.specs.Bytes.{Bytes, word, word_at, le32, put}
use Rattle.wire.proofs.Parts.{rest_part}
use Rattle.opmsg.specs.Layout.{checksum_size, flag_word, sections_end, section_bytes}
use Rattle.opmsg.proofs.Accepted.{reads}
use Rattle.message.specs.Message.{message, checksum, whole_length}
use Rattle.message.proofs.Message.{header_length, header_word, stated_end}
use Rattle.message.proofs.Forwarded.{view_length, form}
use Rattle.message.proofs.Whole.{whole}
use Rattle.message_seal.specs.Inner.{overwritten}
use Rattle.message_seal.proofs.Stores.{Stored, stores_none, stores, stored_length, sealed}
use Rattle.message_forward_store.specs.Inner.{Shown, Reflagged}

-- c is out with the header, the flag word and the sections stored one behind the other, up to the checksum of k bytes
pub record Laid (s : List ℕ) (size flags : ℕ) (out : List ℕ) (k : ℕ) (c : List ℕ) : Type 0 where
  pub headed : List ℕ
  pub flagged : List ℕ
  pub k_is : k ≡ checksum_size flags
  pub first : headed ≡ put 0 (take 16 s) out
  pub second : flagged ≡ put 16 (le32 flags) headed
  pub third : c ≡ put 20 (take (size - k - 20) (drop 20 s)) flagged

module _ (s : List ℕ) (size flags : ℕ) (m : Shown s size flags) where
  shown_size : size ≡ 20 + length (section_bytes s) + checksum_size flags
  unfolding whole_length
  shown_size =
      rw (m.size_is, m.flags_is)
      at (view_length m.edition s m.view m.reads ∙ sym (header_word s (reads m.reads).sound 0 (omega arith)) ∙ (form m.edition s m.view m.reads).stated)

  -- where its sections end, by what is shown
  shown_end : size - checksum_size flags ≡ sections_end s
  shown_end = omega (arith, shown_size, stated_end s (reads m.reads).sound)

  pub shown_bounds : (checksum_size flags ≤ size) × (20 ≤ size - checksum_size flags) × (size ≤ length s)
  shown_bounds =
      (omega (arith, shown_size), omega (arith, shown_size), omega (arith, view_length m.edition s m.view m.reads, m.size_is, (reads m.reads).sound.whole))

  module _ (out : List ℕ) (room : size ≤ length out) where
    -- where its flag word is the one that is shown, it is stored as it is
    module _ (bytes : Bytes s) (w : ℕ) (w-is : w ≡ word (take (length s - 16) (drop 16 s))) (same : w ≡ flags) where
      flags_same : flag_word s ≡ flags
      unfolding word_at
      flags_same = sym (rw (rest_part 16 s) at w-is) ∙ same

      pub forward_same : put 0 (take size s) out ≡ overwritten (message (take 16 s) flags (section_bytes s)) out
      forward_same =
          let is : message (take 16 s) flags (section_bytes s) ≡ take size s = rw (← flags_same, ← m.size_is, view_length m.edition s m.view m.reads) (whole m.edition s m.view m.reads bytes) in
          rw is (stores [] (take size s) out out 0 refl (omega (arith, length-take size s)) (stores_none out))

    module _ (k : ℕ) (c : List ℕ) (laid : Laid s size flags out k c) where
      abbrev header : List ℕ
      header = take 16 s ++ le32 flags

      abbrev xs : List ℕ
      xs = section_bytes s

      sixteen : length (take 16 s) ≡ 16
      sixteen = header_length s (reads m.reads).sound

      twenty : length header ≡ 20
      unfolding le32
      twenty = length-append (take 16 s) (le32 flags) ∙ omega (arith, sixteen)

      long : length (header ++ xs) ≡ size - k
      long = length-append header xs ∙ omega (arith, twenty, shown_size, laid.k_is)

      stored : Stored (header ++ xs) out c
      unfolding le32
      stored =
          let bytes : take (size - k - 20) (drop 20 s) ≡ xs = unfold section_bytes in rw (laid.k_is, shown_end) in
          let s1 : Stored (take 16 s) out laid.headed = laid.first ∙ stores [] (take 16 s) out out 0 refl (omega (arith, sixteen, shown_size)) (stores_none out) in
          let s2 : Stored header out laid.flagged = laid.second ∙ stores (take 16 s) (le32 flags) out laid.headed 16 sixteen (omega (arith, sixteen, shown_size)) s1 in
          laid.third ∙ rw bytes (stores header xs out laid.flagged 20 twenty (omega (arith, twenty, shown_size)) s2)

      pub forward_stands : Reflagged s c (size - k) flags
      forward_stands = record {
        size = size;
        shown = m;
        end_is = ap (λ (j : ℕ). size - j) laid.k_is;
        room = omega (arith, shown_size, laid.k_is, stored_length (header ++ xs) out c (omega (arith, long)) stored);
        stands = ap (take (size - k)) stored ∙ take_at (header ++ xs) _ (size - k) long ∙ append_assoc (take 16 s) (le32 flags) xs;
      }

      pub forward_stores : put (size - k) (checksum flags (take (size - k) c)) c ≡ overwritten (message (take 16 s) flags xs) out
      unfolding message
      forward_stores = rw (append_assoc (take 16 s) (le32 flags) xs) at (sealed (header ++ xs) out c flags (size - k) long (omega (arith, shown_size, laid.k_is)) stored)
