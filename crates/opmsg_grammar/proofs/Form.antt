-- The bytes of a message as the grammar has them, and as reading sees them: the header's words, the flag word, the sections and the checksum.
-- Assumes nothing.
use Prim.Native.Nat.{ℕ, ◌+◌, ◌^◌, ◌≤◌, ◌<◌}
use mathlib.Core.Path.{◌≡◌, refl, sym, ap, ◌∙◌}
use mathlib.Core.List.{List, [], ◌++◌}
use native.Mathlib.Omega.{arith}
use lib.ListN.{length, take, drop}
use lib.Seq.{take-add, take_at}
use Rattle.wire.specs.Outcome.{ok}
use Rattle.wire.specs.Bytes.{Bytes, word_at, le32}
use Rattle.wire.proofs.Bytes.{word_le32, word_at_front}
use Rattle.opmsg.specs.Layout.{max_length, message_length, flag_word, section_bytes}
use Rattle.opmsg.specs.Read.{read}
use Rattle.opmsg.proofs.Accepted.{reads}
use Rattle.opmsg.proofs.Front.{read_front}
use Rattle.opmsg.proofs.Limits.{max_length_small}
use Rattle.message.specs.Message.{checksum, message, whole_length}
use Rattle.message.proofs.Message.{Seen, message_whole, message_word, message_seen}
use Rattle.message.proofs.Whole.{word_bytes_at, whole}
use Rattle.opmsg.specs.declared.Edition.{Edition}
use Rattle.opmsg.specs.declared.View.{View}

-- the 16 bytes of a header
abbrev pub header_of : (size request_id response_to : ℕ) → List ℕ
header_of size request_id response_to = le32 size ++ le32 request_id ++ le32 response_to ++ le32 2013

sixteen : (size request_id response_to : ℕ) → length (header_of size request_id response_to) ≡ 16
unfolding le32
sixteen size request_id response_to = refl

pub made_whole : (size request_id response_to flags : ℕ) (xs : List ℕ) → length (message (header_of size request_id response_to) flags xs) ≡ whole_length flags xs
made_whole size request_id response_to flags xs = message_whole _ flags xs (sixteen size request_id response_to)

-- the bytes of a message are put together from it
pub form : (size request_id response_to flags : ℕ) (xs : List ℕ)
    → let m = le32 size ++ le32 request_id ++ le32 response_to ++ le32 2013 ++ le32 flags ++ xs in m ++ checksum flags m ≡ message (header_of size request_id response_to) flags xs
unfolding le32 message
form size request_id response_to flags xs = refl

-- ---- of a message that was read

pub read_form : (e : Edition) (s : List ℕ) (v : View) (h : read e s ≡ ok v) → Bytes s
    → message (header_of (message_length s) (word_at 4 s) (word_at 8 s)) (flag_word s) (section_bytes s) ≡ take (message_length s) s
read_form e s v h b =
    let at = word_bytes_at e s v h b in
    let code : le32 2013 ≡ take 4 (drop 12 s) = ap le32 (sym (reads h).sound.opcode) ∙ at 12 (omega arith) in
    let twelve = take-add 8 4 s ∙ ap (λ (l : List ℕ). l ++ take 4 (drop 8 s)) (take-add 4 4 s) in
    let sixteen = take-add 12 4 s ∙ ap (λ (l : List ℕ). l ++ take 4 (drop 12 s)) twelve in
    let header : header_of (message_length s) (word_at 4 s) (word_at 8 s) ≡ take 16 s = rw (at 0 (omega arith), at 4 (omega arith), at 8 (omega arith), code) (sym sixteen) in
    rw header (whole e s v h b)

-- ---- of a message of the grammar

module _ (size request_id response_to flags : ℕ) (xs : List ℕ)
    (first : request_id < 2 ^ 32) (second : response_to < 2 ^ 32) (third : flags < 2 ^ 32) (limit : size ≤ max_length) (counts : whole_length flags xs ≡ size) where
  abbrev made : List ℕ
  made = message (header_of size request_id response_to) flags xs

  header_words : (word_at 0 (header_of size request_id response_to) ≡ size) × (word_at 4 (header_of size request_id response_to) ≡ request_id)
      × (word_at 8 (header_of size request_id response_to) ≡ response_to) × (word_at 12 (header_of size request_id response_to) ≡ 2013)
  unfolding word_at le32
  header_words = (
    word_le32 size (le32 request_id ++ le32 response_to ++ le32 2013) (omega (arith, max_length_small)),
    word_le32 request_id (le32 response_to ++ le32 2013) first,
    word_le32 response_to (le32 2013) second,
    word_le32 2013 [] (omega arith),
  )

  -- its words, as reading sees them
  pub made_length : length made ≡ size
  made_length = made_whole size request_id response_to flags xs ∙ counts

  pub made_word : (k : ℕ) → k + 4 ≤ 16 → word_at k made ≡ word_at k (header_of size request_id response_to)
  made_word = message_word _ flags xs (sixteen size request_id response_to)

  pub made_words : (message_length made ≡ size) × (word_at 4 made ≡ request_id) × (word_at 8 made ≡ response_to)
  made_words = (
    made_word 0 (omega arith) ∙ header_words.0,
    made_word 4 (omega arith) ∙ header_words.1,
    made_word 8 (omega arith) ∙ header_words.2,
  )

  pub made_seen : Seen made flags xs
  made_seen =
      message_seen _ flags xs (record { sixteen = sixteen size request_id response_to; stated = header_words.0 ∙ sym counts; small = third }) (rw counts limit) header_words.3

  -- and so with bytes behind it
  pub made_front : (e : Edition) (rest : List ℕ) → read e (made ++ rest) ≡ read e made
  made_front e rest =
      let stated : message_length (made ++ rest) ≡ size = word_at_front 0 made rest (omega (arith, made_length, made_seen.sound.least, made_seen.whole)) ∙ made_words.0 in
      let least : 16 ≤ message_length (made ++ rest) = omega (arith, stated, made_words.0, made_seen.sound.least) in
      sym (read_front e (made ++ rest) least) ∙ ap (read e) (rw stated (take_at made rest size made_length))
