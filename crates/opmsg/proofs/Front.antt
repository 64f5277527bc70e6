-- Reading looks at the first messageLength bytes alone.
-- Assumes nothing.
use Prim.Native.Nat.{ℕ, ◌+◌, ◌-◌, ◌≤◌}
use mathlib.Core.Bool.{Bool, true, false}
use mathlib.Core.Path.{◌≡◌, refl, sym, ap, ◌∙◌}
use mathlib.Core.List.{List}
use native.Mathlib.Omega.{arith}
use lib.ListN.{length, take, drop, take-append-drop}
use lib.Seq.{take-take, take_all, length-take-le}
use lib.Dec.{ltb}
use borrow.Author.Tests.{ltb-true, ltb-false, le-ltb}
use Rattle.wire.specs.Outcome.{refuse, ◌>>=◌}
use Rattle.wire.specs.Bytes.{word_at}
use Rattle.wire.proofs.Bytes.{word_at_front}
use Rattle.wire.proofs.Agree.{inner_take}
use Rattle.opmsg.specs.Layout.{message_length, sections_end, section_bytes, checksum_differs}
use Rattle.opmsg.specs.View.{view_of}
use Rattle.opmsg.specs.Read.{header, flagged, parts, content, read}
use Rattle.opmsg.specs.declared.Edition.{Edition}

module _ (s : List ℕ) (least : 16 ≤ message_length s) (whole : message_length s ≤ length s) where
  abbrev front : List ℕ
  front = take (message_length s) s

  front_length : length front ≡ message_length s
  front_length = length-take-le (message_length s) s whole

  front_word : (k : ℕ) → k + 4 ≤ message_length s → word_at k front ≡ word_at k s
  front_word k l =
      sym (word_at_front k front (drop (message_length s) s) (omega (arith, front_length))) ∙ ap (word_at k) (take-append-drop (message_length s) s)

  -- with a flag word
  module _ (flags : 20 ≤ message_length s) where
    front_end : sections_end front ≡ sections_end s
    unfolding sections_end
    front_end = rw (front_word 0 (omega arith), front_word 16 (omega arith))

    front_sections : section_bytes front ≡ section_bytes s
    unfolding section_bytes
    front_sections = rw front_end (inner_take (sections_end s - 20) 20 (message_length s) s (unfold sections_end in omega arith))

    front_checksum : checksum_differs front ≡ checksum_differs s
    unfolding checksum_differs
    front_checksum =
        let n = message_length s in
        rw (front_word 0 (omega arith), front_word 16 (omega arith), front_word (n - 4) (omega arith), take-take (n - 4) n s (omega arith))

  -- a message that is too short for a flag word
  front_short : (e : Edition) → ltb (message_length s) 20 ≡ true → read e front ≡ read e s
  unfolding read header flagged content ◌>>=◌ refuse
  front_short e t =
      rw (
        front_word 0 (omega arith),
        front_word 12 (omega arith),
        front_length,
        le-ltb (message_length s) 16 least,
        le-ltb (message_length s) (message_length s) (omega arith),
        le-ltb (length s) 16 (omega arith),
        le-ltb (length s) (message_length s) whole,
        t,
      )

  front_long : (e : Edition) → 20 ≤ message_length s → read e front ≡ read e s
  unfolding read header flagged content parts view_of
  front_long e l =
      rw (
        front_word 0 (omega arith),
        front_word 4 (omega arith),
        front_word 8 (omega arith),
        front_word 12 (omega arith),
        front_word 16 (omega arith),
        front_end l,
        front_sections l,
        front_checksum l,
        front_length,
        le-ltb (message_length s) 16 least,
        le-ltb (message_length s) (message_length s) (omega arith),
        le-ltb (length s) 16 (omega arith),
        le-ltb (length s) (message_length s) whole,
      )

  front_read : (e : Edition) → read e front ≡ read e s
  front_read e = go (ltb (message_length s) 20) refl
    where
      go : (t : Bool) → ltb (message_length s) 20 ≡ t → read e front ≡ read e s
      go true t = front_short e t
      go false t = front_long e (ltb-false (message_length s) 20 t)

pub read_front : (e : Edition) (s : List ℕ) → 16 ≤ message_length s → read e (take (message_length s) s) ≡ read e s
read_front e s l = go (ltb (length s) (message_length s)) refl
  where
    go : (t : Bool) → ltb (length s) (message_length s) ≡ t → read e (take (message_length s) s) ≡ read e s
    go true t = ap (read e) (take_all (message_length s) s (omega (arith, ltb-true (length s) (message_length s) t)))
    go false t = front_read s l (ltb-false (length s) (message_length s) t) e
