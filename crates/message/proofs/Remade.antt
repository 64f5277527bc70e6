-- The message with a front of its sections: it is what writing gives for the body alone, and what appending gives with one section more.
-- Assumes nothing.
use Prim.Native.Nat.{ℕ, ◌+◌, ◌<◌, ◌≤◌}
use mathlib.Core.Bool.{true}
use mathlib.Core.Path.{◌≡◌, sym, ap, ◌∙◌}
use mathlib.Core.List.{List, ◌∷◌, ◌++◌}
use native.Mathlib.Omega.{arith}
use lib.ListN.{length, take, drop, length-append}
use lib.Seq.{take-add, take_at, drop-drop}
use borrow.Author.Tests.{le-ltb, lt-leb, eq-eqb, ne_eqb}
use Rattle.wire.specs.Outcome.{ok, refuse, ◌>>=◌}
use Rattle.wire.specs.Walk.{walk}
use Rattle.wire.specs.Bytes.{Bytes, word, word_at, le32, signed, until_zero}
use Rattle.wire.proofs.Bytes.{word_at_lt, bits32_signed, word_at_front}
use Rattle.wire.proofs.Walk.{walk_turns}
use Rattle.opmsg.specs.Flags.{kept, knows}
use Rattle.opmsg.specs.Layout.{max_length, message_length, flag_word, section_bytes}
use Rattle.opmsg.specs.Sections.{max_sequences, Parts, nothing, body_of, sequences_of, section_at}
use Rattle.opmsg.specs.View.{view_of}
use Rattle.opmsg.specs.Read.{parts, read}
use Rattle.message.specs.Message.{whole_length, output}
use Rattle.message.specs.Write.{written, write}
use Rattle.message.specs.Append.{sequence_bytes, appended, append}
use Rattle.message.specs.Editions.{Room}
use Rattle.message.specs.RoundTrip.{first_message}
use Rattle.opmsg.specs.declared.Edition.{Edition}
use Rattle.opmsg.specs.declared.View.{View}
use Rattle.opmsg.proofs.Accepted.{Differ, reads, accepted}
use Rattle.opmsg.proofs.SectionRead.{section_steady}
use Rattle.opmsg.proofs.Shown.{view_count}
use Rattle.opmsg.proofs.Bits.{Known, known_all_known, kept_all}
use Rattle.message.proofs.Message.{Seen, stated_length}
use Rattle.message.proofs.Whole.{word_bytes_at, whole}
use Rattle.message.proofs.Appended.{appended_seen, appended_rest}

-- a message that is as long as it says is the first of an output that begins with it
pub first_of : (m r : List ℕ) → length m ≡ message_length m → 4 ≤ length m → first_message (m ++ r) ≡ m
unfolding first_message
first_of m r l four = rw (word_at_front 0 m r four) (take_at m r (message_length m) l)

-- the message s with sections ys
abbrev pub made : List ℕ → List ℕ → List ℕ
made s ys = appended s (flag_word s) ys

module _ (e : Edition) (s : List ℕ) (v : View) (h : read e s ≡ ok v) (b : Bytes s) (known : Known 32 (flag_word s) e.bits) where
  pub flags_kept : kept e.bits (flag_word s) ≡ flag_word s
  flags_kept = kept_all e.bits (flag_word s) known (word_at_lt 16 s b)

  -- a front of the sections
  module _ (ys : List ℕ) (l : length ys ≤ length (section_bytes s)) where
    pub made_fits : whole_length (flag_word s) ys ≤ message_length s
    unfolding whole_length
    made_fits = omega (arith, stated_length s (reads h).sound)

    made_limit : whole_length (flag_word s) ys ≤ max_length
    made_limit = omega (arith, made_fits, (reads h).sound.limit)

    made_seen : Seen (made s ys) (flag_word s) ys
    made_seen = appended_seen s (reads h).sound (flag_word s) ys (word_at_lt 16 s b) made_limit

    -- appending to it gives it with other sections
    pub appended_made : (zs : List ℕ) → appended (made s ys) (flag_word s) zs ≡ made s zs
    appended_made zs = unfold appended in rw (appended_rest s (reads h).sound (flag_word s) ys (word_at_lt 16 s b) made_limit)

    -- it is read as its sections are
    pub made_read : (p : Parts) → walk (section_at e) (length ys) 20 ys nothing ≡ ok p → 0 < (body_of p.sections).start → Differ ys p.sections
        → read e (made s ys) ≡ ok (view_of e (made s ys) p)
    unfolding parts
    made_read p w i d =
        let a : parts e (made s ys) ≡ ok p =
        rw (made_seen.end, made_seen.sections)
        (walk_turns (section_at e) (section_steady e).advances (20 + length ys) (length ys) 20 ys nothing (omega arith) (omega arith) ∙ w) in
        accepted e (made s ys) made_seen.sound (rw made_seen.flags (reads h).bits) p a
        (ne_eqb (body_of p.sections).start 0 (λ z. omega arith)) (rw made_seen.sections d)

    -- it is the first message of an output that begins with it
    pub first_made : (r : List ℕ) → first_message (made s ys ++ r) ≡ made s ys
    first_made r = let l = made_seen.whole in first_of (made s ys) r l (omega (arith, made_seen.sound.least))

  -- one sequence is appended
  module _ (ys name documents out : List ℕ) (p : Parts) (w : View) (l : length (ys ++ sequence_bytes name documents) ≤ length (section_bytes s)) (room : Room s out)
      (k : knows e 1 ≡ true) (c : length (sequences_of p.sections) < max_sequences) (n : 0 < length name) (z : until_zero name ≡ length name)
      (before : read e (made s ys) ≡ ok (view_of e (made s ys) p)) (after : read e (made s (ys ++ sequence_bytes name documents)) ≡ ok w) where
    append_answers : append e (made s ys) name documents (length out) ≡ ok (record { view = w; bytes = made s (ys ++ sequence_bytes name documents) })
    unfolding append ◌>>=◌ refuse view_of
    append_answers =
        let i : length ys ≤ length (section_bytes s) = omega (arith, length-append ys (sequence_bytes name documents)) in
        let zs = ys ++ sequence_bytes name documents in
        rw (
          before,
          k,
          view_count e (made s ys) p,
          lt-leb max_sequences (length (sequences_of p.sections)) c,
          ne_eqb (length name) 0 (λ i. omega arith),
          z,
          le-ltb (length name) (length name) (omega arith),
          (made_seen ys i).flags,
          flags_kept,
          (made_seen ys i).sections,
          le-ltb max_length (whole_length (flag_word s) zs) (omega (arith, made_fits zs l, (reads h).sound.limit)),
          le-ltb (length out) (whole_length (flag_word s) zs) (omega (arith, made_fits zs l)),
          appended_made ys i zs,
          after,
        )

    pub append_made : first_message (output (append e (made s ys) name documents (length out)) out) ≡ made s (ys ++ sequence_bytes name documents)
    unfolding output
    append_made = rw append_answers (first_made (ys ++ sequence_bytes name documents) l _)

  -- ---- the message with its body alone is what writing gives

  ids_bytes : le32 (word_at 4 s) ++ (le32 (word_at 8 s) ++ le32 2013) ≡ take 12 (drop 4 s)
  ids_bytes =
      rw (← (reads h).sound.opcode, word_bytes_at e s v h b 4 (omega arith), word_bytes_at e s v h b 8 (omega arith), word_bytes_at e s v h b 12 (omega arith))
      (sym (take-add 4 8 (drop 4 s) ∙ ap (λ (l : List ℕ). take 4 (drop 4 s) ++ l) (ap (take 8) (drop-drop 4 4 s) ∙ take-add 4 4 (drop 8 s) ∙ ap (λ (l : List ℕ). take 4 (drop 8 s) ++ take 4 l) (drop-drop 4 8 s))))

  written_made : (body : List ℕ) → written (signed (word_at 4 s)) (signed (word_at 8 s)) (flag_word s) body ≡ made s (0 ∷ body)
  unfolding written appended
  written_made body = rw (bits32_signed (word_at 4 s) (word_at_lt 4 s b), bits32_signed (word_at 8 s) (word_at_lt 8 s b), ids_bytes)

  module _ (body out : List ℕ) (w : View) (fits : length body < length (section_bytes s)) (stated : word body ≡ length body) (least : 5 ≤ length body) (room : Room s out)
      (after : read e (made s (0 ∷ body)) ≡ ok w) where
    write_answers : write e (signed (word_at 4 s)) (signed (word_at 8 s)) (flag_word s) body (length out) ≡ ok (record { view = w; bytes = made s (0 ∷ body) })
    unfolding write ◌>>=◌ refuse
    write_answers =
        let n = whole_length (flag_word s) (0 ∷ body) in
        let m = made_fits (0 ∷ body) fits in
        rw (
          known_all_known 32 e.bits (flag_word s) known,
          le-ltb max_length n (omega (arith, m, (reads h).sound.limit)),
          le-ltb (length out) n (omega (arith, m)),
          le-ltb (length body) 4 (omega arith),
          eq-eqb (word body) (length body) stated,
          written_made body,
          after,
        )

    pub write_made : first_message (output (write e (signed (word_at 4 s)) (signed (word_at 8 s)) (flag_word s) body (length out)) out) ≡ made s (0 ∷ body)
    unfolding output
    write_made = rw write_answers (first_made (0 ∷ body) fits _)

  -- ---- the message with all its sections is the whole message

  header_bytes : le32 (whole_length (flag_word s) (section_bytes s)) ++ take 12 (drop 4 s) ≡ take 16 s
  unfolding whole_length
  header_bytes = rw (← stated_length s (reads h).sound, word_bytes_at e s v h b 0 (omega arith)) (sym (take-add 4 12 s))

  pub whole_made : made s (section_bytes s) ≡ first_message s
  unfolding appended first_message
  whole_made = rw header_bytes (whole e s v h b)
