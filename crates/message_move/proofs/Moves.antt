-- What moving the body answers: reading's refusal, 28, 25, or the message with its view.
-- Assumes nothing.
use Prim.Native.Nat.{ℕ, ◌+◌, ◌<◌, ◌≤◌, ◌^◌}
use mathlib.Core.Path.{◌≡◌, refl, sym, ap, ◌∙◌}
use mathlib.Core.List.{List, ◌∷◌, flat_map}
use native.Mathlib.Omega.{arith}
use lib.ListN.{length, take, drop, length-append, length-drop}
use lib.Seq.{length-take-le}
use lib.Dec.{ltb}
use borrow.Author.Tests.{ltb-false, lt-ltb, le-ltb}
use Rattle.wire.specs.Outcome.{Outcome, ok, refused, refuse, ◌>>=◌}
use Rattle.wire.specs.Bytes.{Bytes}
use Rattle.wire.proofs.Outcome.{passed, clear, pass, go_on, halt, assoc}
use Rattle.opmsg.specs.Layout.{checksum_size, section_bytes}
use Rattle.opmsg.specs.Sections.{max_sequences, body_of, sequences_of}
use Rattle.opmsg.specs.View.{padded, sections_of, sequence_count}
use Rattle.opmsg.specs.Inner.{first_sections}
use Rattle.opmsg.specs.Read.{read}
use Rattle.opmsg.specs.declared.Edition.{Edition}
use Rattle.opmsg.specs.declared.Section.{Section}
use Rattle.opmsg.specs.declared.Section.TheVariants.{Body}
use Rattle.opmsg.specs.declared.Entry.{Entry}
use Rattle.opmsg.specs.declared.View.{View}
use Rattle.opmsg.proofs.Limits.{max_length_small}
use Rattle.opmsg.proofs.Shown.{view_count}
use Rattle.opmsg.proofs.Entries.{first_padded}
use Rattle.opmsg.proofs.Accepted.{reads}
use Rattle.message.specs.Message.{message, whole_length}
use Rattle.message.specs.Move.{section_in, reordered, moved, move}
use Rattle.message.specs.Moving.{moved_view}
use Rattle.message.specs.Inner.{decided}
use Rattle.message.proofs.Message.{header_word}
use Rattle.message.proofs.Forwarded.{view_length, form}
use Rattle.message.proofs.Tiles.{Chunks, no_chunk, chunk_and, all_tiled}
use Rattle.message.proofs.Chunks.{chunks_length}
use Rattle.message.proofs.Moved.{shown_reordered, order_chunks, moved_read}
use Rattle.message_move.specs.Inner.{total_size, with_sections, movable}

chunks_total : {e : Edition} {s : List ℕ} {qs : List Section} {m l : ℕ} → Chunks e s qs m l → total_size qs ≡ l
unfolding total_size
chunks_total no_chunk = refl
chunks_total (chunk_and c st r) = rw (chunks_total r)

-- ---- the checks behind reading, case by case

module _ (count behind length room : ℕ) where
  pub too_few : count < behind → movable count behind length room ≡ refused 28 0
  unfolding movable refuse ◌>>=◌
  too_few h = rw (movable, lt-ltb count behind h)

  pub too_short : behind ≤ count → room < length → movable count behind length room ≡ refused 25 0
  unfolding movable refuse ◌>>=◌
  too_short l h = rw (movable, le-ltb count behind l, lt-ltb room length h)

  pub may_move : behind ≤ count → length ≤ room → movable count behind length room ≡ ok tt
  unfolding movable refuse ◌>>=◌
  may_move l h = rw (movable, le-ltb count behind l, le-ltb room length h)

pub ruleset cases = (too_few, too_short, may_move)

module _ (e : Edition) (s : List ℕ) (behind room : ℕ) where
  pub move_unread : {number place : ℕ} → read e s ≡ refused number place → move e s behind room ≡ refused number place
  unfolding move
  move_unread h = halt _ h

  module _ (v : View) (h : read e s ≡ ok v) where
    -- the checks behind reading refuse
    pub move_barred : {number place : ℕ} → movable (sequence_count v) behind v.length room ≡ refused number place → move e s behind room ≡ refused number place
    unfolding move movable
    move_barred c = go_on _ h ∙ sym (assoc (refuse 28 0 (ltb (sequence_count v) behind)) _ _) ∙ halt _ c

    -- or they are passed
    module _ (b : Bytes s) (c : movable (sequence_count v) behind v.length room ≡ ok tt) where
      pub behind_few : behind ≤ sequence_count v
      unfolding movable
      behind_few = ltb-false (sequence_count v) behind (passed _ _ _ _ c).0

      pub has_room : v.length ≤ room
      unfolding movable
      has_room = ltb-false room v.length (clear _ _ _ (passed _ _ _ _ c).1)

      pub move_fits : move e s behind room ≡ ok (record { view = moved_view v behind; bytes = moved s v behind })
      unfolding move
      move_fits = go_on _ h ∙ pass 28 0 _ (le-ltb _ _ behind_few) ∙ pass 25 0 _ (le-ltb _ _ has_room) ∙ go_on _ (moved_read e s v b h behind)

    -- what is decided before anything is written
    pub move_decided : Bytes s → decided (move e s behind room) ≡ movable (sequence_count v) behind v.length room
    unfolding decided ◌>>=◌
    move_decided b = go (movable (sequence_count v) behind v.length room) refl
      where
        go : (o : Outcome (Unit {0})) → movable (sequence_count v) behind v.length room ≡ o → decided (move e s behind room) ≡ o
        go (ok tt) c = rw (move_fits b c)
        go (refused number place) c = rw (move_barred c)

-- ---- the sections in their new order

module _ (e : Edition) (s : List ℕ) (v : View) (b : Bytes s) (h : read e s ≡ ok v) where
  count_is : sequence_count v ≡ length (sequences_of (reads h).sections.sections)
  count_is = ap sequence_count (sym (reads h).view) ∙ view_count e s (reads h).sections

  pub count_few : sequence_count v ≤ max_sequences
  unfolding sequences_of
  count_few = rw count_is ((all_tiled e s v b h).room (omega arith))

  module _ (behind : ℕ) (few : behind ≤ sequence_count v) where
    abbrev order : List Section
    order = reordered behind (sections_of v)

    pub order_length : length order ≡ sequence_count v + 1
    unfolding reordered sequence_count
    order_length =
        let qs = sequences_of (sections_of v) in
        length-append (take behind qs) (Body (body_of (sections_of v)) ∷ drop behind qs) ∙ rw (length-take-le behind qs few, length-drop behind qs) (omega arith)

    order_bytes : length (flat_map (section_in s) order) ≡ length (section_bytes s)
    order_bytes = ap (λ (qs : List Section). length (flat_map (section_in s) qs)) (shown_reordered e s v b h behind) ∙ chunks_length (order_chunks e s v b h behind)

    -- the message is as long as it was
    pub order_fits : 20 + length (flat_map (section_in s) order) + checksum_size v.flags ≡ v.length
    unfolding whole_length
    order_fits = omega (arith, order_bytes, (form e s v h).stated, header_word s (reads h).sound 0 (omega arith), view_length e s v h)

    pub order_small : 20 + total_size order < 2 ^ 32
    order_small =
        let total = ap total_size (shown_reordered e s v b h behind) ∙ chunks_total (order_chunks e s v b h behind) in
        omega (arith, total, order_bytes, order_fits, view_length e s v h, (reads h).sound.limit, max_length_small)

-- ---- in code: the message was read and the checks are passed; the list of entries in their new order, and how many are used

pub record Ordered (e : Edition) (s : List ℕ) (v : View) (behind : ℕ) (entries : List Entry) (n : ℕ) : Type 0 where
  pub bytes : Bytes s
  pub shown : read e s ≡ ok v
  pub few : behind ≤ sequence_count v
  pub entries_is : entries ≡ padded (reordered behind (sections_of v))
  pub n_is : n ≡ sequence_count v + 1

-- the same where the order is not made yet
pub record Passed (e : Edition) (s : List ℕ) (v : View) (count behind room : ℕ) : Type 0 where
  pub shown : ok v ≡ read e s
  pub many : count ≡ sequence_count v
  pub allowed : ok tt ≡ movable count behind v.length room
  pub bytes : Bytes s

module _ {e : Edition} {s : List ℕ} {v : View} {count behind room : ℕ} where
  pub passes : ok v ≡ read e s → count ≡ sequence_count v → ok tt ≡ movable count behind v.length room → Bytes s → Passed e s v count behind room
  passes h m a b = record { shown = h; many = m; allowed = a; bytes = b }

  module _ (k : Passed e s v count behind room) where
    pub few : behind ≤ sequence_count v
    few = behind_few e s behind room v (sym k.shown) k.bytes (sym (rw k.many at k.allowed))

    pub few_sequences : sequence_count v ≤ max_sequences
    few_sequences = count_few e s v k.bytes (sym k.shown)

    pub room_left : v.length ≤ room
    room_left = has_room e s behind room v (sym k.shown) k.bytes (sym (rw k.many at k.allowed))

    pub answered : move e s behind room ≡ ok (record { view = moved_view v behind; bytes = moved s v behind })
    answered = move_fits e s behind room v (sym k.shown) k.bytes (sym (rw k.many at k.allowed))

    pub ordered : {entries : List Entry} → entries ≡ padded (reordered behind (sections_of v)) → Ordered e s v behind entries (count + 1)
    ordered h = record { bytes = k.bytes; shown = sym k.shown; few = few; entries_is = h; n_is = ap (λ (x : ℕ). x + 1) k.many }

module _ {e : Edition} {s : List ℕ} {v : View} {behind : ℕ} {entries : List Entry} {n : ℕ} (o : Ordered e s v behind entries n) where
  first_order : first_sections n entries ≡ reordered behind (sections_of v)
  first_order = rw o.entries_is (first_padded (reordered behind (sections_of v)) n (order_length e s v o.bytes o.shown behind o.few ∙ sym o.n_is))

  pub n_small : n ≤ 17
  unfolding max_sequences
  n_small = omega (arith, o.n_is, count_few e s v o.bytes o.shown)

  pub header_there : 16 ≤ length s
  header_there = omega (arith, (reads o.shown).sound.least, (reads o.shown).sound.whole)

  pub bytes_fit : 20 + length (flat_map (section_in s) (first_sections n entries)) + checksum_size v.flags ≡ v.length
  bytes_fit = rw first_order (order_fits e s v o.bytes o.shown behind o.few)

  pub sizes_small : 20 + total_size (first_sections n entries) < 2 ^ 32
  sizes_small = rw first_order (order_small e s v o.bytes o.shown behind o.few)

  pub bytes_moved : message (take 16 s) v.flags (flat_map (section_in s) (first_sections n entries)) ≡ moved s v behind
  unfolding moved
  bytes_moved = rw first_order

  pub view_moved : with_sections v (take n entries) ≡ moved_view v behind
  unfolding with_sections moved_view
  view_moved = rw (with_sections, first_order)
