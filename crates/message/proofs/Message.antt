-- Messages put together from the 16 bytes of a header, a flag word and sections: what reading sees of them.
-- A message that is accepted has that form, but for the flag word and the checksum. Assumes nothing.
use Prim.Native.Nat.{ℕ, ◌+◌, ◌-◌, ◌^◌, ◌<◌, ◌≤◌}
use mathlib.Core.Bool.{Bool, true, false, not}
use mathlib.Core.Path.{◌≡◌, refl, sym, ap, ◌∙◌}
use mathlib.Core.List.{List, [], ◌++◌, append_assoc, append-nil}
use native.Mathlib.Omega.{arith}
use lib.ListN.{length, take, drop, length-append, length-take, length-drop, take-append-drop}
use lib.Seq.{take_at, drop_at, drop-drop}
use borrow.Author.Tests.{eq-eqb, eqb-true, not-false}
use Rattle.wire.specs.Bytes.{word_at, le32}
use Rattle.wire.proofs.Bytes.{word_le32, word_at_front}
use Rattle.crc32c.specs.Crc.{crc_of}
use Rattle.opmsg.specs.Flags.{checksummed}
use Rattle.opmsg.specs.Layout.{max_length, message_length, flag_word, checksum_size, sections_end, section_bytes, checksum_differs}
use Rattle.message.specs.Message.{checksum, message, whole_length}
use Rattle.opmsg.proofs.Accepted.{Sound}

pub crc_lt : (m : List ℕ) → crc_of m < 2 ^ 32
unfolding crc_of
crc_lt m = omega arith

pub length_checksum : (f : ℕ) (m : List ℕ) → length (checksum f m) ≡ checksum_size f
unfolding checksum checksum_size le32
length_checksum f m = elim (checksummed f) as (λ c. length {A = ℕ} (elim c [ true ↦ le32 (crc_of m) | false ↦ [] ]) ≡ elim c [ true ↦ 4 | false ↦ 0 ]) [ true ↦ refl | false ↦ refl ]

pub size_with : (f : ℕ) → checksummed f ≡ true → checksum_size f ≡ 4
unfolding checksum_size
size_with f c = rw (checksum_size, c)

pub size_without : (f : ℕ) → checksummed f ≡ false → checksum_size f ≡ 0
unfolding checksum_size
size_without f c = rw (checksum_size, c)

pub checksum_with : (f : ℕ) (m : List ℕ) → checksummed f ≡ true → checksum f m ≡ le32 (crc_of m)
unfolding checksum
checksum_with f m c = rw (checksum, c)

pub checksum_without : (f : ℕ) (m : List ℕ) → checksummed f ≡ false → checksum f m ≡ []
unfolding checksum
checksum_without f m c = rw (checksum, c)

pub same_size : (f g : ℕ) → checksummed f ≡ checksummed g → checksum_size f ≡ checksum_size g
unfolding checksum_size
same_size f g c = rw (checksum_size, c)

-- the checksum is right
pub checksum_right : (s : List ℕ) → (checksummed (flag_word s) ≡ true → word_at (message_length s - 4) s ≡ crc_of (take (message_length s - 4) s)) → checksum_differs s ≡ false
unfolding checksum_differs
checksum_right s h = go (checksummed (flag_word s)) refl
  where
    go : (c : Bool) → checksummed (flag_word s) ≡ c → checksum_differs s ≡ false
    go true c = rw (checksum_differs, c) (ap not (eq-eqb _ _ (h c)))
    go false c = rw (checksum_differs, c)

pub right_checksum : (s : List ℕ) → checksum_differs s ≡ false → checksummed (flag_word s) ≡ true → word_at (message_length s - 4) s ≡ crc_of (take (message_length s - 4) s)
unfolding checksum_differs
right_checksum s h c = eqb-true _ _ (not-false _ (rw (checksum_differs, c) at h))

-- a message without its checksum
abbrev bare : List ℕ → ℕ → List ℕ → List ℕ
bare h f xs = h ++ (le32 f ++ xs)

shape : (h : List ℕ) (f : ℕ) (xs : List ℕ) → message h f xs ≡ h ++ (le32 f ++ (xs ++ checksum f (bare h f xs)))
unfolding message le32
shape h f xs = append_assoc h (le32 f ++ xs) (checksum f (bare h f xs))

-- a header of 16 bytes, whatever it states
module _ (h : List ℕ) (f : ℕ) (xs : List ℕ) (sixteen : length h ≡ 16) where
  length_bare : length (bare h f xs) ≡ 20 + length xs
  unfolding le32
  length_bare = omega (arith, length-append h (le32 f ++ xs))

  pub message_word : (k : ℕ) → k + 4 ≤ 16 → word_at k (message h f xs) ≡ word_at k h
  message_word k l = rw (shape h f xs) (word_at_front k h _ (omega arith))

  pub message_whole : length (message h f xs) ≡ whole_length f xs
  unfolding message whole_length
  message_whole = rw (length-append (bare h f xs) (checksum f (bare h f xs)), length_bare, length_checksum f (bare h f xs))

-- a header of 16 bytes that states the length of the whole
pub record Headed (h : List ℕ) (f : ℕ) (xs : List ℕ) : Type 0 where
  pub sixteen : length h ≡ 16
  pub stated : word_at 0 h ≡ whole_length f xs
  pub small : f < 2 ^ 32

-- what reading sees of a message with a flag word and sections
pub record Seen (m : List ℕ) (f : ℕ) (xs : List ℕ) : Type 0 where
  pub sound : Sound m
  pub flags : flag_word m ≡ f
  pub end : sections_end m ≡ 20 + length xs
  pub sections : section_bytes m ≡ xs
  pub whole : length m ≡ message_length m

module _ (h : List ℕ) (f : ℕ) (xs : List ℕ) (g : Headed h f xs) where
  abbrev before : List ℕ
  before = bare h f xs

  pub message_header : take 16 (message h f xs) ≡ h
  message_header = rw (shape h f xs) (take_at h _ 16 g.sixteen)

  behind : drop 16 (message h f xs) ≡ le32 f ++ (xs ++ checksum f before)
  behind = rw (shape h f xs) (drop_at h _ 16 g.sixteen)

  message_flags : flag_word (message h f xs) ≡ f
  unfolding word_at
  message_flags = rw behind (word_le32 f _ g.small)

  rest : drop 20 (message h f xs) ≡ xs ++ checksum f before
  unfolding le32
  rest = sym (drop-drop 4 16 (message h f xs)) ∙ ap (drop 4) behind

  stated_whole : message_length (message h f xs) ≡ 20 + length xs + checksum_size f
  unfolding whole_length
  stated_whole = message_word h f xs g.sixteen 0 (omega arith) ∙ g.stated

  message_end : sections_end (message h f xs) ≡ 20 + length xs
  unfolding sections_end
  message_end = rw (message_flags, stated_whole) (omega arith)

  message_sections : section_bytes (message h f xs) ≡ xs
  unfolding section_bytes
  message_sections = rw (message_end, rest) (take_at xs _ (20 + length xs - 20) (omega arith))

  message_length_lem : length (message h f xs) ≡ message_length (message h f xs)
  unfolding whole_length
  message_length_lem = message_whole h f xs g.sixteen ∙ sym stated_whole

  sum_there : checksummed f ≡ true → word_at (length before) (message h f xs) ≡ crc_of before
  unfolding word_at message
  sum_there c = rw (drop_at before (checksum f before) (length before) refl, checksum_with f before c, ← append-nil (le32 (crc_of before))) (word_le32 (crc_of before) [] (crc_lt before))

  before_sum : take (length before) (message h f xs) ≡ before
  unfolding message
  before_sum = take_at before (checksum f before) (length before) refl

  message_checksum : checksum_differs (message h f xs) ≡ false
  message_checksum = checksum_right (message h f xs) λ c.
      let d : checksummed f ≡ true = rw message_flags at c in
      let k : message_length (message h f xs) - 4 ≡ length before = omega (arith, stated_whole, size_with f d, length_bare h f xs g.sixteen) in
      rw (k, before_sum) (sum_there d)

  -- with the limit kept and the opcode of OP_MSG, its header is sound
  message_sound : whole_length f xs ≤ max_length → word_at 12 h ≡ 2013 → Sound (message h f xs)
  unfolding whole_length
  message_sound l c =
      let n = stated_whole in
      record {
        least = omega arith;
        limit = omega arith;
        whole = omega (arith, message_length_lem);
        opcode = message_word h f xs g.sixteen 12 (omega arith) ∙ c;
        ended = rw message_flags (omega arith);
        checksum = message_checksum;
      }

  pub message_seen : whole_length f xs ≤ max_length → word_at 12 h ≡ 2013 → Seen (message h f xs) f xs
  message_seen l c = record {
    sound = message_sound l c;
    flags = message_flags;
    end = message_end;
    sections = message_sections;
    whole = message_length_lem;
  }

-- a message with a sound header
module _ (s : List ℕ) (k : Sound s) where
  pub header_length : length (take 16 s) ≡ 16
  header_length = length-take 16 s ∙ omega (arith, k.least, k.whole)

  pub header_word : (i : ℕ) → i + 4 ≤ 16 → word_at i (take 16 s) ≡ word_at i s
  header_word i l =
      sym (word_at_front i (take 16 s) (drop 16 s) (omega (arith, header_length))) ∙ ap (word_at i) (take-append-drop 16 s)

  pub stated_length : message_length s ≡ 20 + length (section_bytes s) + checksum_size (flag_word s)
  unfolding section_bytes sections_end
  stated_length = rw (length-take, length-drop) (omega (arith, k.ended, k.whole))

  pub headed : (f : ℕ) → f < 2 ^ 32 → checksummed f ≡ checksummed (flag_word s) → Headed (take 16 s) f (section_bytes s)
  unfolding whole_length
  headed f l c = record {
    sixteen = header_length;
    stated = header_word 0 (omega arith) ∙ stated_length ∙ ap (λ (n : ℕ). 20 + length (section_bytes s) + n) (sym (same_size f (flag_word s) c));
    small = l;
  }

  -- where its sections end
  pub stated_end : sections_end s ≡ 20 + length (section_bytes s)
  unfolding sections_end
  stated_end = rw (stated_length) (omega arith)
