-- A message whose body is moved: reading accepts it, with the view of its sections in the new order; and a body that stays is forwarded.
-- Assumes nothing.
use Prim.Native.Nat.{ℕ, zero, suc, ◌+◌, ◌-◌, ◌<◌, ◌≤◌}
use mathlib.Core.Path.{◌≡◌, refl, sym, ap, ◌∙◌}
use mathlib.Core.List.{List, [], ◌∷◌, ◌++◌, flat_map}
use native.Mathlib.Omega.{arith}
use lib.ListN.{length, take, replicate}
use borrow.Author.Tests.{eqb-false, ne_eqb, le-ltb}
use Rattle.wire.specs.Outcome.{ok, refuse}
use Rattle.wire.specs.Bytes.{Bytes, word_at, signed}
use Rattle.wire.proofs.Outcome.{same_after, pass, go_on}
use Rattle.opmsg.specs.Flags.{kept}
use Rattle.opmsg.specs.Layout.{message_length, flag_word, section_bytes}
use Rattle.opmsg.specs.Sections.{max_sequences, max_sections, body_of, sequences_of, Parts}
use Rattle.opmsg.specs.View.{view_of, sections_of, sequence_count}
use Rattle.opmsg.specs.Read.{parts, read}
use Rattle.opmsg.proofs.Accepted.{Differ, reads, accepted}
use Rattle.opmsg.proofs.Bits.{known_self, known_all_known, kept_known, kept_within}
use Rattle.opmsg.proofs.Shown.{Single, sequences_nones, body_nones, sequences_same}
use Rattle.message.specs.Message.{message, whole_length}
use Rattle.message.specs.Forward.{forwarded, forward}
use Rattle.message.specs.Move.{section_in, reordered, moved, move}
use Rattle.message.specs.Moving.{sequences_before, placed_from, moved_view}
use Rattle.opmsg.specs.declared.Edition.{Edition}
use Rattle.opmsg.specs.declared.Section.{Section}
use Rattle.opmsg.specs.declared.Section.TheVariants.{None, Body, Sequence}
use Rattle.opmsg.specs.declared.View.{View}
use Rattle.message.proofs.Message.{Headed, Seen, message_word, message_seen, header_word}
use Rattle.message.proofs.Forwarded.{required, view_flags, view_length, form, own_forward}
use Rattle.message.proofs.Answers.{section_list}
use Rattle.message.proofs.Tiles.{Chunks, all_tiled}
use Rattle.message.proofs.Chunks.{reordered_single, reordered_body, reordered_sequences, chunks_reordered, chunks_length, walk_chunks}
use Rattle.message.proofs.Renamed.{named, named_sequences, body_placed, differ_alike}

-- what says none changes no order
reordered_nones : (k n : ℕ) (qs : List Section) → reordered k (qs ++ replicate n None) ≡ reordered k qs
unfolding reordered
reordered_nones k n qs = rw (body_nones n qs, sequences_nones n qs)

module _ (e : Edition) (s : List ℕ) (v : View) (b : Bytes s) (h : read e s ≡ ok v) where
  -- the sections of the message
  abbrev pub all : List Section
  all = (all_tiled e s v b h).sections

  all_read : (reads h).sections.sections ≡ all
  all_read = (all_tiled e s v b h).behind

  pub all_shown : sections_of v ≡ all ++ replicate (max_sections - length (reads h).sections.sections) None
  all_shown = section_list (reads h) ∙ ap (λ (l : List Section). l ++ replicate (max_sections - length (reads h).sections.sections) None) all_read

  all_single : Single all
  all_single = (all_tiled e s v b h).single tt

  all_body : 0 < (body_of all).start
  all_body =
      let n = eqb-false (body_of (reads h).sections.sections).start 0 (reads h).body in
      go (body_of all).start (ap (λ (l : List Section). (body_of l).start) all_read) n
    where
      go : (x : ℕ) → (body_of (reads h).sections.sections).start ≡ x → ((body_of (reads h).sections.sections).start ≡ 0 → ⊥) → 0 < x
      go zero i n = absurd (n i)
      go (suc x) i n = omega arith

  pub shown_reordered : (k : ℕ) → reordered k (sections_of v) ≡ reordered k all
  shown_reordered k = ap (reordered k) all_shown ∙ reordered_nones k (max_sections - length (reads h).sections.sections) all

  module _ (k : ℕ) where
    -- in the new order
    abbrev pub order : List Section
    order = reordered k all

    abbrev pub bytes : List ℕ
    bytes = flat_map (section_in s) order

    pub order_chunks : Chunks e s order (all_tiled e s v b h).held (length (section_bytes s))
    order_chunks = chunks_reordered k all (all_tiled e s v b h).chunks all_single all_body

    pub order_body : 0 < (body_of order).start
    order_body = rw (reordered_body k all) all_body

    pub moved_is : moved s v k ≡ message (take 16 s) v.flags bytes
    unfolding moved
    moved_is = ap (λ (l : List Section). message (take 16 s) v.flags (flat_map (section_in s) l)) (shown_reordered k)

    pub moved_form : Headed (take 16 s) v.flags bytes
    unfolding whole_length
    moved_form =
        let f = form e s v h in
        record { sixteen = f.sixteen; stated = rw (chunks_length order_chunks) f.stated; small = f.small }

    pub moved_word : (i : ℕ) → i + 4 ≤ 16 → word_at i (moved s v k) ≡ word_at i s
    moved_word i l = ap (word_at i) moved_is ∙ message_word (take 16 s) v.flags bytes moved_form.sixteen i l ∙ header_word s (reads h).sound i l

    pub moved_seen : Seen (moved s v k) v.flags bytes
    moved_seen =
        let r = (reads h).sound in
        rw moved_is (message_seen (take 16 s) v.flags bytes moved_form (rw (← moved_form.stated, header_word s r 0 (omega arith)) r.limit)
        (header_word s r 12 (omega arith) ∙ r.opcode))

    abbrev passed : Parts
    passed = record { sections = placed_from 20 order; elements = (all_tiled e s v b h).held }

    order_count : length (sequences_of order) ≤ max_sequences
    unfolding sequences_of
    order_count =
        let d = all_tiled e s v b h in
        let l : length (sequences_of (reads h).sections.sections) ≤ max_sequences = d.room (omega arith) in
        rw (reordered_sequences k all, ← all_read) l

    moved_parts : parts e (moved s v k) ≡ ok passed
    unfolding parts
    moved_parts =
        let d = all_tiled e s v b h in
        rw (moved_seen.end, moved_seen.sections) (walk_chunks (20 + length bytes) 20 order_chunks (reordered_single k all) order_count (omega (arith, d.counted, d.limited)) (omega arith))

    moved_differ : Differ bytes (placed_from 20 order)
    moved_differ =
        let d = all_tiled e s v b h in
        let names = sym (named_sequences s all) ∙ ap (named s) (sym (reordered_sequences k all)) ∙ named_sequences s order in
        differ_alike all order d.chunks order_chunks all_body (sym (reordered_body k all)) names
        (rw (d.tiles, d.stands, ← all_read) (reads h).differ)

    view_elements : v.elements ≡ (all_tiled e s v b h).held
    unfolding view_of
    view_elements = let i = sym (ap (λ (v : View). v.elements) (reads h).view) in omega (arith, (all_tiled e s v b h).counted)

    moved_view_lem : view_of e (moved s v k) passed ≡ moved_view v k
    unfolding view_of moved_view
    moved_view_lem =
        let q = (reads h).view in
        let id : signed (word_at 4 (moved s v k)) ≡ v.request_id = ap signed (moved_word 4 (omega arith)) ∙ ap (λ (v : View). v.request_id) q in
        let to : signed (word_at 8 (moved s v k)) ≡ v.response_to = ap signed (moved_word 8 (omega arith)) ∙ ap (λ (v : View). v.response_to) q in
        let long : message_length (moved s v k) ≡ v.length = moved_word 0 (omega arith) ∙ sym (view_length e s v h) in
        let flags : kept e.bits (flag_word (moved s v k)) ≡ v.flags =
        ap (kept e.bits) (moved_seen.flags ∙ view_flags e s v h) ∙ kept_within e.bits e.bits (flag_word s) (known_self 32 e.bits) ∙ sym (view_flags e s v h) in
        rw (id, to, long, flags, shown_reordered k, ← view_elements)

    pub moved_read : read e (moved s v k) ≡ ok (moved_view v k)
    moved_read =
        let bits = known_all_known 16 e.bits (flag_word (moved s v k)) (rw (moved_seen.flags, view_flags e s v h) (kept_known 16 e.bits e.bits (flag_word s) (required e s v h))) in
        let some = body_placed order order_chunks order_body in
        accepted e (moved s v k) moved_seen.sound bits passed moved_parts (ne_eqb (body_of (placed_from 20 order)).start 0 (λ z. omega arith)) (rw moved_seen.sections moved_differ) ∙ ap ok moved_view_lem

-- ---- where the body stands

pub before_nones : (n : ℕ) (qs : List Section) → sequences_before (qs ++ replicate n None) ≡ sequences_before qs
unfolding sequences_before
before_nones zero [] = refl
before_nones (suc n) [] = before_nones n []
before_nones n (None ∷ qs) = before_nones n qs
before_nones n (Body range ∷ qs) = refl
before_nones n (Sequence identifier documents number ∷ qs) = ap suc (before_nones n qs)

before_few : (qs : List Section) → sequences_before qs ≤ length (sequences_of qs)
unfolding sequences_before sequences_of
before_few [] = omega arith
before_few (None ∷ qs) = before_few qs
before_few (Body range ∷ qs) = omega arith
before_few (Sequence identifier documents number ∷ qs) = omega (arith, before_few qs)

same_order : (qs : List Section) → Single qs → 0 < (body_of qs).start → reordered (sequences_before qs) qs ≡ qs
unfolding reordered sequences_before sequences_of body_of
same_order [] one l = absurd (omega arith)
same_order (None ∷ qs) one l = absurd one
same_order (Body range ∷ qs) one l = ap (λ (l : List Section). Body range ∷ l) (sequences_same qs one)
same_order (Sequence identifier documents number ∷ qs) one l = ap (λ (l : List Section). Sequence identifier documents number ∷ l) (same_order qs one l)

module _ (e : Edition) (s : List ℕ) (v : View) (b : Bytes s) (h : read e s ≡ ok v) where
  shown_before : sequences_before (sections_of v) ≡ sequences_before (all e s v b h)
  shown_before = ap sequences_before (all_shown e s v b h) ∙ before_nones (max_sections - length (reads h).sections.sections) (all e s v b h)

  before_count : sequences_before (sections_of v) ≤ sequence_count v
  unfolding sequence_count
  before_count = before_few (sections_of v)

  -- in that order the sections are the bytes that they were
  stayed : flat_map (section_in s) (reordered (sequences_before (sections_of v)) (sections_of v)) ≡ section_bytes s
  stayed =
      let qs = all e s v b h in
      ap (flat_map (section_in s)) (shown_reordered e s v b h (sequences_before (sections_of v)) ∙ ap (λ (n : ℕ). reordered n qs) shown_before
      ∙ same_order qs (all_single e s v b h) (all_body e s v b h)) ∙ (all_tiled e s v b h).tiles

  stayed_forwarded : moved s v (sequences_before (sections_of v)) ≡ forwarded s v
  unfolding moved forwarded
  stayed_forwarded = rw stayed

  pub stays : (room : ℕ) → move e s (sequences_before (sections_of v)) room ≡ forward e s room
  unfolding move forward
  stays room =
      go_on _ h ∙ pass 28 0 _ (le-ltb (sequence_count v) (sequences_before (sections_of v)) before_count)
      ∙ same_after (refuse 25 0 _) _ _ (λ u i. rw stayed_forwarded (go_on _ (own_forward e s v h)))
      ∙ sym (go_on _ h)
