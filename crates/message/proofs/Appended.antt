-- A message s with a sound header, put together again with another flag word and other sections: what reading sees of it.
-- Assumes nothing.
use Prim.Native.Nat.{ℕ, ◌+◌, ◌^◌, ◌<◌, ◌≤◌}
use mathlib.Core.Path.{◌≡◌, sym, ap, ◌∙◌}
use mathlib.Core.List.{List, ◌++◌}
use native.Mathlib.Omega.{arith}
use lib.ListN.{length, take, drop, length-drop, take-append-drop}
use lib.Seq.{take-take, drop-append-add, drop-drop, length-take-le}
use Rattle.wire.specs.Bytes.{word, word_at, le32}
use Rattle.wire.proofs.Bytes.{word_le32, word_at_front}
use Rattle.wire.proofs.Agree.{inner_take}
use Rattle.opmsg.specs.Layout.{max_length, message_length}
use Rattle.opmsg.proofs.Accepted.{Sound}
use Rattle.opmsg.proofs.Limits.{max_length_small}
use Rattle.message.specs.Message.{whole_length}
use Rattle.message.specs.Append.{appended}
use Rattle.message.proofs.Message.{Headed, Seen, message_word, message_header, message_seen}

module _ (s : List ℕ) (k : Sound s) (f : ℕ) (ys : List ℕ) (small : f < 2 ^ 32) (limit : whole_length f ys ≤ max_length) where
  rest_length : length (take 12 (drop 4 s)) ≡ 12
  rest_length = length-take-le 12 (drop 4 s) (rw length-drop (omega (arith, k.least, k.whole)))

  abbrev header : List ℕ
  header = le32 (whole_length f ys) ++ take 12 (drop 4 s)

  form : Headed header f ys
  unfolding word_at le32
  form = record {
    sixteen = rw rest_length;
    stated = word_le32 (whole_length f ys) _ (omega (arith, limit, max_length_small));
    small = small;
  }

  -- the words of the header behind the first
  pub appended_word : (i : ℕ) → i + 4 ≤ 12 → word_at (4 + i) (appended s f ys) ≡ word_at (4 + i) s
  unfolding appended word_at le32
  appended_word i l =
      message_word header f ys form.sixteen (4 + i) (omega arith)
      ∙ ap word (drop-append-add (le32 (whole_length f ys)) (take 12 (drop 4 s)) i)
      ∙ sym (word_at_front i (take 12 (drop 4 s)) (drop 12 (drop 4 s)) (omega (arith, rest_length)))
      ∙ ap (word_at i) (take-append-drop 12 (drop 4 s)) ∙ ap word (drop-drop i 4 s)

  pub appended_stated : message_length (appended s f ys) ≡ whole_length f ys
  unfolding appended
  appended_stated = message_word header f ys form.sixteen 0 (omega arith) ∙ form.stated

  opcode : word_at 12 header ≡ 2013
  unfolding appended
  opcode = sym (message_word header f ys form.sixteen 12 (omega arith)) ∙ appended_word 8 (omega arith) ∙ k.opcode

  pub appended_seen : Seen (appended s f ys) f ys
  unfolding appended
  appended_seen = message_seen header f ys form limit opcode

  pub appended_rest : take 12 (drop 4 (appended s f ys)) ≡ take 12 (drop 4 s)
  unfolding appended le32
  appended_rest =
      sym (inner_take 12 4 16 (appended s f ys) (omega arith))
      ∙ ap (λ (m : List ℕ). take 12 (drop 4 m)) (message_header header f ys form)
      ∙ take-take 12 12 (drop 4 s) (omega arith)
