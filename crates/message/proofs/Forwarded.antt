-- What a relay forwards of a message that it accepts: the same but for the flag word and the checksum, and accepted again.
-- Assumes nothing.
use Prim.Native.Nat.{ℕ, ◌+◌, ◌^◌, ◌≤◌, ◌<◌}
use mathlib.Core.Bool.{false}
use mathlib.Core.Path.{◌≡◌, sym, ap, ◌∙◌}
use mathlib.Core.List.{List}
use native.Mathlib.Omega.{arith}
use lib.ListN.{length, take}
use lib.Seq.{take_at}
use lib.Dec.{ltb}
use borrow.Author.Tests.{le-ltb}
use Rattle.wire.specs.Outcome.{ok, refuse, ◌>>=◌}
use Rattle.wire.specs.Bytes.{word_at}
use Rattle.wire.proofs.Outcome.{pass, go_on}
use Rattle.opmsg.specs.Flags.{checksummed, kept}
use Rattle.opmsg.specs.Layout.{message_length, flag_word, section_bytes}
use Rattle.opmsg.specs.Sections.{Parts}
use Rattle.opmsg.specs.View.{view_of, sections_of}
use Rattle.opmsg.specs.Read.{parts, read}
use Rattle.message.specs.Message.{output}
use Rattle.message.specs.Forward.{forwarded, forward}
use Rattle.message.specs.Editions.{KnowsKinds, with_flags, Room, sent}
use Rattle.opmsg.specs.declared.Edition.{Edition}
use Rattle.opmsg.specs.declared.View.{View}
use Rattle.opmsg.proofs.Accepted.{Differ, reads, accepted}
use Rattle.message.proofs.Answers.{kinds_known_lem, read_answer, accepts_kinds}
use Rattle.opmsg.proofs.Bits.{Known, known_self, all_known_known, known_all_known, kept_lt, kept_within, kept_known, known_kept, kept_bit0}
use Rattle.message.proofs.Message.{Headed, Seen, message_word, message_header, message_seen, header_word, stated_end, headed}

same_view : (e : Edition) (m s : List ℕ) (p : Parts) → word_at 0 m ≡ word_at 0 s → word_at 4 m ≡ word_at 4 s → word_at 8 m ≡ word_at 8 s
    → kept e.bits (flag_word m) ≡ kept e.bits (flag_word s) → view_of e m p ≡ view_of e s p
unfolding view_of
same_view e m s p a b c d = rw (a, b, c, d)

-- a message s of which an edition e shows v, and what e forwards of it
module _ (e : Edition) (s : List ℕ) (v : View) (h : read e s ≡ ok v) where
  pub required : Known 16 (flag_word s) e.bits
  required = all_known_known 16 e.bits (flag_word s) (reads h).bits

  pub view_flags : v.flags ≡ kept e.bits (flag_word s)
  unfolding view_of
  view_flags = sym (ap (λ (v : View). v.flags) (reads h).view)

  pub view_flags_lt : v.flags < 2 ^ 32
  view_flags_lt = rw view_flags (kept_lt e.bits (flag_word s))

  -- bit 0 is shown as it is
  pub view_bit0 : checksummed v.flags ≡ checksummed (flag_word s)
  view_bit0 = rw view_flags (kept_bit0 e.bits (flag_word s) required)

  pub view_length : v.length ≡ message_length s
  unfolding view_of
  view_length = sym (ap (λ (v : View). v.length) (reads h).view)

  pub form : Headed (take 16 s) v.flags (section_bytes s)
  form = headed s (reads h).sound v.flags view_flags_lt view_bit0

  pub forwarded_word : (k : ℕ) → k + 4 ≤ 16 → word_at k (forwarded s v) ≡ word_at k s
  unfolding forwarded
  forwarded_word k l = message_word (take 16 s) v.flags (section_bytes s) form.sixteen k l ∙ header_word s (reads h).sound k l

  forwarded_seen : Seen (forwarded s v) v.flags (section_bytes s)
  unfolding forwarded
  forwarded_seen =
      let g = form in
      let k = (reads h).sound in
      message_seen (take 16 s) v.flags (section_bytes s) g
      (rw (← g.stated, header_word s k 0 (omega arith)) k.limit) (header_word s k 12 (omega arith) ∙ k.opcode)

  pub forwarded_length : length (forwarded s v) ≡ message_length s
  forwarded_length = forwarded_seen.whole ∙ forwarded_word 0 (omega arith)

  forwarded_parts : (r : Edition) → parts r (forwarded s v) ≡ parts r s
  unfolding parts
  forwarded_parts r = rw (forwarded_seen.end, stated_end s (reads h).sound, forwarded_seen.sections)

  -- forwarding again sets the flag word alone
  pub forwarded_again : (w : View) → forwarded (forwarded s v) w ≡ forwarded s w
  unfolding forwarded
  forwarded_again w = rw (forwarded_seen.sections, message_header (take 16 s) v.flags (section_bytes s) form)

  -- the edition accepts what it forwards, and shows the same
  pub own_forward : read e (forwarded s v) ≡ ok v
  own_forward =
      let r = reads h in
      let b = known_all_known 16 e.bits (flag_word (forwarded s v)) (rw (forwarded_seen.flags, view_flags) (kept_known 16 e.bits e.bits (flag_word s) required)) in
      let d : Differ (section_bytes (forwarded s v)) r.sections.sections = rw forwarded_seen.sections r.differ in
      accepted e (forwarded s v) forwarded_seen.sound b r.sections (forwarded_parts e ∙ r.listed) r.body d
      ∙ ap ok (same_view e (forwarded s v) s r.sections (forwarded_word 0 (omega arith)) (forwarded_word 4 (omega arith)) (forwarded_word 8 (omega arith))
      (ap (kept e.bits) (forwarded_seen.flags ∙ view_flags) ∙ kept_within e.bits e.bits (flag_word s) (known_self 32 e.bits)) ∙ r.view)

  -- so does a relay with the required bits and the kinds of what e forwards
  pub forwarded_answer : (r : Edition) → Known 16 v.flags r.bits → KnowsKinds r (sections_of v) → read r (forwarded s v) ≡ ok (with_flags v (kept r.bits v.flags))
  forwarded_answer r k u =
      let b = known_all_known 16 r.bits (flag_word (forwarded s v)) (rw forwarded_seen.flags k) in
      read_answer e r (forwarded s v) v own_forward ∙ pass 8 16 _ b
      ∙ go_on _ (kinds_known_lem r (sections_of v) u) ∙ rw forwarded_seen.flags

  -- and such a relay alone, which knows those of the message then
  pub forwarded_knows : (r : Edition) (w : View) → read r (forwarded s v) ≡ ok w → Known 16 (flag_word s) r.bits × KnowsKinds r (sections_of v)
  forwarded_knows r w k =
      let b = rw (forwarded_seen.flags, view_flags) at (all_known_known 16 r.bits (flag_word (forwarded s v)) (reads k).bits) in (
        known_kept 16 e.bits (flag_word s) r.bits (omega arith) required b,
        accepts_kinds e r (forwarded s v) v w own_forward k,
      )

  -- given room, that is what the relay forwards
  pub sent_forwarded : (out : List ℕ) → Room s out → sent e s out ≡ forwarded s v
  unfolding sent forward output ◌>>=◌ refuse
  sent_forwarded out l =
      let c : ltb (length out) v.length ≡ false = le-ltb (length out) v.length (omega (arith, view_length)) in
      rw (forward, h, c) (take_at (forwarded s v) _ (message_length s) forwarded_length)
