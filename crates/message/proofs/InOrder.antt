-- The round trip of a message whose body comes anywhere: its body moved first, made again, and moved back.
-- Assumes nothing.
use Prim.Native.Nat.{ℕ, suc}
use mathlib.Core.Path.{◌≡◌, refl, sym, ap, ◌∙◌}
use mathlib.Core.List.{List, [], ◌∷◌}
use native.Mathlib.Omega.{arith}
use lib.ListN.{length}
use lib.Seq.{take_all}
use Rattle.wire.specs.Outcome.{ok}
use Rattle.wire.specs.Bytes.{Bytes}
use Rattle.opmsg.specs.Layout.{message_length, flag_word}
use Rattle.opmsg.specs.Sections.{body_of, sequences_of}
use Rattle.opmsg.specs.View.{sections_of}
use Rattle.opmsg.specs.Read.{read}
use Rattle.opmsg.proofs.Accepted.{reads}
use Rattle.opmsg.proofs.Bits.{bits_known}
use Rattle.message.specs.Message.{output}
use Rattle.message.specs.Forward.{forwarded}
use Rattle.message.specs.Write.{write}
use Rattle.message.specs.Append.{append}
use Rattle.message.specs.Move.{reordered, moved, move}
use Rattle.message.specs.Moving.{sequences_before, placed, placed_from, moved_view}
use Rattle.message.specs.Editions.{KnowsBits, Room}
use Rattle.message.specs.RoundTrip.{RoundTrip, BodyFirst, first_message, cut, appended_to, remade, remade_in_order}
use Rattle.opmsg.specs.declared.Edition.{Edition}
use Rattle.opmsg.specs.declared.Section.{Section}
use Rattle.opmsg.specs.declared.Section.TheVariants.{None, Body, Sequence}
use Rattle.opmsg.specs.declared.View.{View}
use Rattle.message.proofs.Forwarding.{forward_fits}
use Rattle.message.proofs.Forwarded.{view_flags, view_length, forwarded_word, forwarded_length}
use Rattle.message.proofs.Whole.{whole}
use Rattle.message.proofs.Remade.{flags_kept, first_of}
use Rattle.message.proofs.RoundTrip.{first}
use Rattle.message.proofs.Moved.{order, moved_word, moved_seen, moved_read, before_nones, stays}
use Rattle.message.proofs.Again.{Alikes, bodies, sequences, no_pair, pair_and, alike_cut, bytes_moved, left, view_sections, all_alike, both_bodies, move_again}

-- appending sequences that are alike gives the same
appended_alike : {s m : List ℕ} (e : Edition) (x : List ℕ) (outs : ℕ → List ℕ) {qs rs : List Section} → Alikes s m qs rs → appended_to e s x qs outs ≡ appended_to e m x rs outs
unfolding appended_to
appended_alike e x outs no_pair = refl
appended_alike e x outs (pair_and (bodies c i) r) = appended_alike e x outs r
appended_alike {s = s} {m = m} e x outs (pair_and {qs = qs} {rs = rs} (sequences {a = a} {c = c'} {d = d'} {f = f} {i = i'} {j = j} c d i) r) =
    rw (c, d) (appended_alike e (first_message (output (append e x (cut m c') (cut m f) (length (outs 0))) (outs 0))) (λ i. outs (suc i)) r)

-- only sequences are appended
appended_sequences : (e : Edition) (s x : List ℕ) (qs : List Section) (outs : ℕ → List ℕ) → appended_to e s x (sequences_of qs) outs ≡ appended_to e s x qs outs
unfolding appended_to sequences_of
appended_sequences e s x [] outs = refl
appended_sequences e s x (None ∷ qs) outs = appended_sequences e s x qs outs
appended_sequences e s x (Body range ∷ qs) outs = appended_sequences e s x qs outs
appended_sequences e s x (Sequence identifier documents number ∷ qs) outs =
    appended_sequences e s (first_message (output (append e x (cut s identifier) (cut s documents) (length (outs 0))) (outs 0))) qs (λ i. outs (suc i))

module _ (e : Edition) (s : List ℕ) (v : View) (b : Bytes s) (h : read e s ≡ ok v) (known : KnowsBits 32 e s) where
  -- the body moved first
  abbrev before : List ℕ
  before = moved s v 0

  abbrev view : View
  view = moved_view v 0

  flags_same : v.flags ≡ flag_word s
  flags_same = view_flags e s v h ∙ flags_kept e s v h b (bits_known 32 (flag_word s) e.bits known)

  -- both are made again alike
  remade_alike : (outs : ℕ → List ℕ) → remade e s v outs ≡ remade e before view outs
  unfolding remade moved_view
  remade_alike outs =
      let made : List ℕ → List ℕ = λ body. first_message (output (write e v.request_id v.response_to v.flags body (length (outs 0))) (outs 0)) in
      let old = made (cut s (body_of (sections_of v))) in
      let more : ℕ → List ℕ = λ i. outs (suc i) in
      sym (appended_sequences e s old (sections_of v) more) ∙ appended_alike e old more (all_alike e s v b h 0) ∙ appended_sequences e before old (sections_of view) more
      ∙ ap (λ (body : List ℕ). appended_to e before (made body) (sections_of view) more) (alike_cut (both_bodies e s v b h 0))

  body_first : BodyFirst view
  unfolding sequences_before placed_from placed reordered
  body_first = ap sequences_before (view_sections e s v b h 0) ∙ before_nones (left e s v b h 0) (placed_from 20 (order e s v b h 0))

  knows_before : KnowsBits 32 e before
  knows_before = rw ((moved_seen e s v b h 0).flags ∙ flags_same) known

  before_long : message_length before ≡ message_length s
  before_long = moved_word e s v b h 0 0 (omega arith)

  whole_before : first_message before ≡ before
  unfolding first_message
  whole_before = take_all (message_length before) before (omega (arith, (moved_seen e s v b h 0).whole))

  remade_before : (outs : ℕ → List ℕ) → ((i : ℕ) → Room s (outs i)) → remade e s v outs ≡ before
  remade_before outs room =
      remade_alike outs ∙ first e before view outs (bytes_moved e s v b h 0) (moved_read e s v b h 0) body_first knows_before (λ i. omega (arith, before_long, room i)) ∙ whole_before

  -- and moved back, where it is forwarded
  abbrev place : ℕ
  place = sequences_before (sections_of v)

  moved_back : (out : List ℕ) → Room s out → move e before place (length out) ≡ ok (record { view = v; bytes = forwarded s v })
  moved_back out room = move_again e s v b h 0 place (length out) ∙ stays e s v b h (length out) ∙ forward_fits e s (length out) v h (omega (arith, view_length e s v h))

  back : forwarded s v ≡ first_message s
  unfolding forwarded first_message
  back = rw flags_same (whole e s v h b)

  made_anywhere : (outs : ℕ → List ℕ) (out : List ℕ) → ((i : ℕ) → Room s (outs i)) → Room s out → remade_in_order e s v outs out ≡ first_message s
  unfolding remade_in_order output
  made_anywhere outs out rooms room =
      let l = forwarded_length e s v h in
      let long = forwarded_word e s v h 0 (omega arith) in
      rw (remade_before outs rooms, moved_back out room) (first_of (forwarded s v) _ (l ∙ sym long) (omega (arith, (reads h).sound.least)) ∙ back)

pub round_trip : RoundTrip
round_trip = record {
  first = first;
  anywhere = λ e s v outs out b h k rooms room. made_anywhere e s v b h k outs out rooms room;
}
