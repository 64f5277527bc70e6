-- A message that was read is made of its header, its flag word, its sections and its checksum.
-- Assumes nothing.
use Prim.Native.Nat.{ℕ, ◌+◌, ◌-◌, ◌≤◌}
use mathlib.Core.Bool.{Bool, true, false}
use mathlib.Core.Path.{◌≡◌, refl, sym, ap, ◌∙◌}
use mathlib.Core.List.{List, ◌++◌, append-nil}
use native.Mathlib.Omega.{arith}
use lib.ListN.{length, take, drop, length-drop}
use lib.Seq.{take-add, drop-drop}
use Rattle.wire.specs.Outcome.{ok}
use Rattle.wire.specs.Bytes.{Bytes, word_at, le32}
use Rattle.wire.proofs.Bytes.{bytes_drop, le32_word}
use Rattle.opmsg.specs.Flags.{checksummed}
use Rattle.opmsg.specs.Layout.{message_length, flag_word, sections_end, section_bytes}
use Rattle.opmsg.specs.Read.{read}
use Rattle.message.specs.Message.{checksum, message}
use Rattle.opmsg.specs.declared.Edition.{Edition}
use Rattle.opmsg.specs.declared.View.{View}
use Rattle.opmsg.proofs.Accepted.{reads}
use Rattle.message.proofs.Message.{size_with, size_without, checksum_with, checksum_without, right_checksum, stated_end}

module _ (e : Edition) (s : List ℕ) (v : View) (h : read e s ≡ ok v) (b : Bytes s) where
  pub word_bytes_at : (k : ℕ) → k + 4 ≤ 20 → le32 (word_at k s) ≡ take 4 (drop k s)
  unfolding word_at
  word_bytes_at k l = le32_word (drop k s) (bytes_drop k s b) (rw length-drop (omega (arith, (reads h).sound)))

  end_least : 20 ≤ sections_end s
  end_least = omega (arith, stated_end s (reads h).sound)

  pub before_end : take 16 s ++ (le32 (flag_word s) ++ section_bytes s) ≡ take (sections_end s) s
  unfolding section_bytes
  before_end =
      let n = sections_end s - 20 in
      let q : sections_end s ≡ 16 + (4 + n) = omega (arith, end_least) in
      rw (word_bytes_at 16 (omega arith))
      (sym (ap (λ (i : ℕ). take i s) q ∙ take-add 16 (4 + n) s ∙ ap (λ (l : List ℕ). take 16 s ++ l) (take-add 4 n (drop 16 s) ∙ ap (λ (l : List ℕ). take 4 (drop 16 s) ++ take n l) (drop-drop 4 16 s))))

  with_checksum : (c : Bool) → checksummed (flag_word s) ≡ c → take (sections_end s) s ++ checksum (flag_word s) (take (sections_end s) s) ≡ take (message_length s) s
  unfolding sections_end word_at
  with_checksum true c =
      let n = message_length s in
      let k = (reads h).sound in
      let f = size_with (flag_word s) c in
      let g : n - 4 + 4 ≡ n = omega (arith, k.ended) in
      let l : 4 ≤ length (drop (n - 4) s) = rw length-drop (omega (arith, k.ended, k.whole)) in
      rw (checksum_with (flag_word s) (take (sections_end s) s) c, f, ← right_checksum s k.checksum c, le32_word (drop (n - 4) s) (bytes_drop (n - 4) s b) l)
      (sym (take-add (n - 4) 4 s) ∙ ap (λ (i : ℕ). take i s) g)
  with_checksum false c =
      let z : message_length s - 0 ≡ message_length s = omega arith in
      rw (checksum_without (flag_word s) (take (sections_end s) s) c, size_without (flag_word s) c, z) (append-nil (take (message_length s) s))

  pub whole : message (take 16 s) (flag_word s) (section_bytes s) ≡ take (message_length s) s
  unfolding message
  whole = rw before_end (with_checksum (checksummed (flag_word s)) refl)
