-- Appending to an accepted message, by what its view shows: which refusal it gives, or the view with one sequence more.
-- Assumes nothing.
use Prim.Native.Nat.{ℕ, ◌+◌, ◌-◌, ◌<◌, ◌≤◌}
use mathlib.Core.Bool.{Bool, true, false}
use mathlib.Core.Path.{◌≡◌, refl, sym, ap, ◌∙◌}
use mathlib.Core.List.{List, ◌++◌}
use native.Mathlib.Omega.{arith}
use lib.ListN.{length, length-append}
use borrow.Author.Tests.{ltb-false, leb-false, eqb-false, not-false}
use Rattle.wire.specs.Outcome.{Outcome, ok, refused, refuse, ◌>>=◌}
use Rattle.wire.specs.Bytes.{word_at, signed, until_zero}
use Rattle.wire.proofs.Outcome.{passed, clear, stop, pass, go_on, halt, same_after, assoc}
use Rattle.wire.proofs.Bytes.{until_le}
use Rattle.wire.proofs.Walk.{walk_append}
use Rattle.opmsg.specs.Flags.{kept, knows}
use Rattle.opmsg.specs.Layout.{max_length, flag_word, checksum_size, sections_end, section_bytes}
use Rattle.opmsg.specs.Sections.{max_sequences, max_sections, sequence_at, body_of, sequences_of, Run, nothing, section_at}
use Rattle.opmsg.specs.View.{view_of, sequence_count}
use Rattle.opmsg.specs.Read.{parts, content, read}
use Rattle.opmsg.specs.Inner.{clashes, Shows}
use Rattle.opmsg.specs.declared.Edition.{Edition}
use Rattle.opmsg.specs.declared.Range.{Range}
use Rattle.opmsg.specs.declared.View.{View}
use Rattle.opmsg.proofs.Limits.{max_length_small}
use Rattle.opmsg.proofs.Accepted.{Reads, reads, read_content}
use Rattle.opmsg.proofs.Bits.{known_self, known_all_known, kept_within, kept_known}
use Rattle.opmsg.proofs.SectionRead.{section_steady}
use Rattle.opmsg.proofs.Shown.{padded_set, view_count, body_nones}
use Rattle.message.specs.Message.{whole_length}
use Rattle.message.specs.Append.{sequence_bytes, appended, append}
use Rattle.message.proofs.Answers.{section_list}
use Rattle.message.proofs.Message.{Seen, same_size, stated_length, stated_end}
use Rattle.message.proofs.Forwarded.{required, view_flags, view_flags_lt, view_bit0, view_length}
use Rattle.message.proofs.Appended.{appended_word, appended_stated, appended_seen}
use Rattle.message_append_store.proofs.Size.{size_of, bytes_length}
use Rattle.message_append_checks.specs.Inner.{allowed, shown_body, grown}
use Rattle.message_append_checks.proofs.Held.{accepted_held}
use Rattle.message_append_checks.proofs.Section.{run_at, with_section, section_walked, names_checked}

-- the checks of `allowed` passed
pub record Allowed (e : Edition) (count : ℕ) (name : List ℕ) (whole room : ℕ) : Type 0 where
  pub known : knows e 1 ≡ true
  pub few : count < max_sequences
  pub some : 0 < length name
  pub ended : until_zero name ≡ length name
  pub limit : whole ≤ max_length
  pub fits : whole ≤ room

pub allows : (e : Edition) (end count : ℕ) (name : List ℕ) (whole room : ℕ) → allowed e end count name whole room ≡ ok tt → Allowed e count name whole room
unfolding allowed
allows e end count name whole room h =
    let c1 = passed _ _ _ _ h in
    let c2 = passed _ _ _ _ c1.1 in
    let c3 = passed _ _ _ _ c2.1 in
    let c4 = passed _ _ _ _ c3.1 in
    let c5 = passed _ _ _ _ c4.1 in
    let empty = eqb-false (length name) 0 c3.0 in
    record {
      known = not-false _ c1.0;
      few = leb-false max_sequences count c2.0;
      some = omega (arith, empty);
      ended = omega (arith, ltb-false (until_zero name) (length name) c4.0, until_le name);
      limit = ltb-false max_length whole c5.0;
      fits = ltb-false room whole (clear _ _ _ c5.1);
    }

-- a check behind which there are others
check : {A : Type 0} (number place : ℕ) (t : Bool) (o : Outcome (Unit {0})) (f : Unit {0} → Outcome A) {k : Outcome A} → (o >>= f) ≡ k → ((refuse number place t >>= λ _. o) >>= f) ≡ (refuse number place t >>= λ _. k)
check number place t o f h = assoc (refuse number place t) _ _ ∙ same_after (refuse number place t) _ _ (λ _ _. h)

-- reading's refusals
pub append_unread : (e : Edition) (s name documents : List ℕ) (room : ℕ) {number place : ℕ} → read e s ≡ refused number place → append e s name documents room ≡ refused number place
unfolding append
append_unread e s name documents room h = halt _ h

module _ (e : Edition) (s : List ℕ) (v : View) (h : read e s ≡ ok v) where
  abbrev r : Reads e s v
  r = reads h

  same_checksum : checksum_size v.flags ≡ checksum_size (flag_word s)
  same_checksum = same_size v.flags (flag_word s) (view_bit0 e s v h)

  -- where its sections end
  pub end_is : v.length - checksum_size v.flags ≡ sections_end s
  unfolding sections_end
  end_is = rw (view_length e s v h, same_checksum)

  -- what its view shows of its sections
  same_body : body_of r.sections.sections ≡ shown_body v
  same_body = sym (ap body_of (section_list r) ∙ body_nones (max_sections - length r.sections.sections) r.sections.sections)

  same_count : length (sequences_of r.sections.sections) ≡ sequence_count v
  same_count = sym (view_count e s r.sections) ∙ ap sequence_count r.view

  -- one of them is the body
  all_count : length r.sections.sections ≡ sequence_count v + 1
  all_count =
      let some = eqb-false (body_of r.sections.sections).start 0 r.body in
      omega (arith, (accepted_held e s v h).number, same_count, some)

  pub shows : Shows r.sections.sections (shown_body v).start (shown_body v).length v.entries (sequence_count v + 1) (sequence_count v)
  unfolding view_of
  shows = record {
    start_is = ap (λ (b : Range). b.start) same_body;
    size_is = ap (λ (b : Range). b.length) same_body;
    entries_is = ap (λ (v : View). v.entries) r.view;
    used_is = all_count;
    sequences_is = same_count;
  }

  pub elements_are : r.sections.elements ≡ v.elements
  unfolding view_of
  elements_are = ap (λ (v : View). v.elements) r.view

  ids : (signed (word_at 4 s) ≡ v.request_id) × (signed (word_at 8 s) ≡ v.response_to)
  unfolding view_of
  ids = (ap (λ (v : View). v.request_id) r.view, ap (λ (v : View). v.response_to) r.view)

  flags_again : kept e.bits v.flags ≡ v.flags
  flags_again = rw (view_flags e s v h) (kept_within e.bits e.bits (flag_word s) (known_self 32 e.bits))

  -- the new message
  module _ (name documents : List ℕ) where
    abbrev more : List ℕ
    more = section_bytes s ++ sequence_bytes name documents

    abbrev new : List ℕ
    new = appended s v.flags more

    pub whole_is : v.length + (length name + 6 + length documents) ≡ whole_length v.flags more
    unfolding whole_length
    whole_is = omega (arith, view_length e s v h, same_checksum, stated_length s r.sound, length-append (section_bytes s) (sequence_bytes name documents), bytes_length name documents)

    -- the checks behind reading, and then reading of the new message
    append_checks : (room : ℕ) → append e s name documents room
        ≡ (allowed e (sections_end s) (sequence_count v) name (v.length + (length name + 6 + length documents)) room >>= λ _. read e new >>= λ w. ok (record { view = w; bytes = new }))
    unfolding append allowed
    append_checks room = rw whole_is (go_on _ h ∙ sym (check _ _ _ _ _ (check _ _ _ _ _ (check _ _ _ _ _ (check _ _ _ _ _ (check _ _ _ _ _ refl))))))

    pub append_barred : (room : ℕ) {number place : ℕ} → allowed e (sections_end s) (sequence_count v) name (v.length + (length name + 6 + length documents)) room ≡ refused number place
        → append e s name documents room ≡ refused number place
    append_barred room c = append_checks room ∙ halt _ c

    module _ (room : ℕ) (c : allowed e (sections_end s) (sequence_count v) name (v.length + (length name + 6 + length documents)) room ≡ ok tt) where
      abbrev a : Allowed e (sequence_count v) name (whole_length v.flags more) room
      a = allows e (sections_end s) (sequence_count v) name (whole_length v.flags more) room (rw whole_is at c)

      pub size_small : 20 + length (section_bytes s) + (1 + size_of name documents) ≤ max_length
      unfolding whole_length
      size_small = omega (arith, a.limit, length-append (section_bytes s) (sequence_bytes name documents), bytes_length name documents)

      seen : Seen new v.flags more
      seen = appended_seen s r.sound v.flags more (view_flags_lt e s v h) a.limit

      -- it is read as the documents are, behind the sections that were there
      abbrev at : ℕ
      at = 20 + length (section_bytes s)

      new_parts : parts e new ≡ (run_at name documents at r.sections.elements >>= λ run. ok (with_section name documents at r.sections run))
      unfolding parts
      new_parts =
          let xs = section_bytes s in
          let ys = sequence_bytes name documents in
          let l = bytes_length name documents in
          let k = length-append xs ys in
          rw (seen.end, seen.sections)
          (walk_append (section_at e) (section_steady e) (sections_end s) (1 + size_of name documents) (20 + length more) 20 xs ys nothing (omega (arith, stated_end s r.sound)) (omega arith) (omega arith) r.listed
          ∙ section_walked name documents e at r.sections a.known (omega (arith, a.few, shows.sequences_is)) a.some a.ended (omega (arith, size_small, max_length_small)))

      new_view : (run : Run) → view_of e new (with_section name documents at r.sections run) ≡ grown v at (length name) (length documents) run.documents run.elements
      unfolding view_of grown
      new_view run =
          let qs = r.sections.sections in
          let q = sequence_at at (length name) (length documents) run.documents in
          let room : length qs < max_sections = unfold max_sequences max_sections in omega (arith, a.few, shows.used_is) in
          rw (
            appended_stated s r.sound v.flags more (view_flags_lt e s v h) a.limit,
            ← whole_is,
            appended_word s r.sound v.flags more (view_flags_lt e s v h) a.limit 0 (omega arith),
            appended_word s r.sound v.flags more (view_flags_lt e s v h) a.limit 4 (omega arith),
            seen.flags,
            flags_again,
            ids.0,
            ids.1,
            ← padded_set qs q room,
            shows.entries_is,
            shows.used_is,
          )

      read_new : read e new
          ≡ (run_at name documents at r.sections.elements >>= λ run. refuse 24 (at + 5) (clashes (section_bytes s) r.sections.sections name)
          >>= λ _. ok (grown v at (length name) (length documents) run.documents run.elements))
      unfolding content
      read_new =
          let known = known_all_known 16 e.bits (flag_word new) (rw (seen.flags, view_flags e s v h) (kept_known 16 e.bits e.bits (flag_word s) (required e s v h))) in
          read_content e new seen.sound known
          ∙ rw (content, new_parts, seen.sections) (assoc _ _ _
          ∙ same_after _ _ _ (λ run g. go_on _ refl
          ∙ rw (names_checked (section_bytes s) r.sections.sections (accepted_held e s v h) r.differ r.body name documents run.documents (sections_end new), new_view run)))

      same_run : run_at name documents at r.sections.elements ≡ run_at name documents (sections_end s) v.elements
      same_run = rw (stated_end s r.sound, elements_are)

      -- the documents are refused
      pub append_documents : {number place : ℕ} → run_at name documents (sections_end s) v.elements ≡ refused number place → append e s name documents room ≡ refused number place
      append_documents w = append_checks room ∙ go_on _ c ∙ halt _ (read_new ∙ halt _ (same_run ∙ w))

      module _ (run : Run) (w : run_at name documents (sections_end s) v.elements ≡ ok run) where
        -- the identifier is taken
        pub append_taken : clashes (section_bytes s) r.sections.sections name ≡ true
            → append e s name documents room ≡ refused 24 (sections_end s + 5)
        append_taken t = rw (stated_end s r.sound) (append_checks room ∙ go_on _ c ∙ halt _ (read_new ∙ go_on _ (same_run ∙ w) ∙ stop 24 _ _ t))

        -- or the sequence is added
        pub append_grown : clashes (section_bytes s) r.sections.sections name ≡ false
            → append e s name documents room ≡ ok (record { view = grown v (sections_end s) (length name) (length documents) run.documents run.elements; bytes = new })
        append_grown t = rw (stated_end s r.sound) (append_checks room ∙ go_on _ c ∙ go_on _ (read_new ∙ go_on _ (same_run ∙ w) ∙ pass 24 _ _ t))
