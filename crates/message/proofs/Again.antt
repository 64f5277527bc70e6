-- A message whose body was moved has the sections of the message that it was. So it is moved again as that message is.
-- Assumes nothing.
use Prim.Native.Nat.{ℕ, zero, suc, ◌+◌, ◌-◌, ◌<◌, ◌≤◌}
use mathlib.Core.Bool.{Bool, true, false}
use mathlib.Core.Path.{◌≡◌, refl, sym, ap, ◌∙◌}
use mathlib.Core.List.{List, [], ◌∷◌, ◌++◌, flat_map, append_assoc}
use native.Mathlib.Omega.{arith}
use lib.ListN.{length, take, drop, replicate, length-append, length-drop}
use lib.Seq.{take_all, take-append-le, drop-append-le, drop-drop}
use Rattle.wire.specs.Outcome.{ok}
use Rattle.wire.specs.Bytes.{Bytes, le32}
use Rattle.wire.proofs.Outcome.{ok_same, passed, bound, go_on}
use Rattle.wire.proofs.Bytes.{bytes_drop, bytes_take}
use Rattle.wire.proofs.Agree.{inner_take}
use Rattle.crc32c.specs.Crc.{crc_of}
use Rattle.opmsg.specs.Flags.{checksummed}
use Rattle.opmsg.specs.Layout.{section_bytes}
use Rattle.opmsg.specs.Sections.{max_sections, body_at, sequence_at, place_of, section_size, body_of, sequences_of}
use Rattle.opmsg.specs.View.{sections_of, sequence_count}
use Rattle.opmsg.specs.Read.{read}
use Rattle.opmsg.proofs.Accepted.{reads}
use Rattle.opmsg.proofs.Shown.{padded_shows, sequences_nones, body_nones}
use Rattle.message.specs.Message.{checksum, message, Written}
use Rattle.message.specs.Move.{section_in, reordered, moved, move}
use Rattle.message.specs.Moving.{placed, placed_from, moved_view, Moving}
use Rattle.message.specs.RoundTrip.{cut}
use Rattle.opmsg.specs.declared.Edition.{Edition}
use Rattle.opmsg.specs.declared.Range.{Range}
use Rattle.opmsg.specs.declared.Section.{Section}
use Rattle.opmsg.specs.declared.Section.TheVariants.{None, Body, Sequence}
use Rattle.opmsg.specs.declared.View.{View}
use Rattle.message.proofs.Message.{message_header}
use Rattle.message.proofs.Anywhere.{Chunk}
use Rattle.message.proofs.Tiles.{Chunks, chunk_and, left_part}
use Rattle.message.proofs.Chunks.{reordered_body, reordered_sequences}
use Rattle.message.proofs.Moved.{all, all_shown, shown_reordered, order, bytes, order_chunks, order_body, moved_is, moved_form, moved_seen, moved_read, stays}

-- ---- a message that is put together of bytes has bytes

bytes_append : (xs ys : List ℕ) → Bytes xs → Bytes ys → Bytes (xs ++ ys)
bytes_append [] ys a b i = b i
bytes_append (x ∷ xs) ys a b zero = a 0
bytes_append (x ∷ xs) ys a b (suc i) = bytes_append xs ys (λ j. a (suc j)) b i

bytes_nil : Bytes []
bytes_nil i = omega arith

bytes_le32 : (n : ℕ) → Bytes (le32 n)
unfolding le32
bytes_le32 n zero = omega arith
bytes_le32 n (suc zero) = omega arith
bytes_le32 n (suc (suc zero)) = omega arith
bytes_le32 n (suc (suc (suc zero))) = omega arith
bytes_le32 n (suc (suc (suc (suc i)))) = omega arith

bytes_checksum : (f : ℕ) (m : List ℕ) → Bytes (checksum f m)
unfolding checksum
bytes_checksum f m = go (checksummed f) refl
  where
    go : (c : Bool) → checksummed f ≡ c → Bytes (checksum f m)
    go true c = rw (checksum, c) (bytes_le32 (crc_of m))
    go false c = rw (checksum, c) bytes_nil

bytes_message : (h : List ℕ) (f : ℕ) (xs : List ℕ) → Bytes h → Bytes xs → Bytes (message h f xs)
unfolding message
bytes_message h f xs a b =
    let m = h ++ (le32 f ++ xs) in
    bytes_append m (checksum f m) (bytes_append h (le32 f ++ xs) a (bytes_append (le32 f) xs (bytes_le32 f) b)) (bytes_checksum f m)

bytes_flat : (s : List ℕ) (qs : List Section) → Bytes s → Bytes (flat_map (section_in s) qs)
unfolding flat_map section_in
bytes_flat s [] b = bytes_nil
bytes_flat s (q ∷ qs) b = bytes_append (section_in s q) (flat_map (section_in s) qs) (bytes_take (section_size q) (drop (place_of q) s) (bytes_drop (place_of q) s b)) (bytes_flat s qs b)

-- ---- sections of a message s and of a message m that have the same bytes

pub data Alike (s m : List ℕ) : Section → Section → Type 0 where
  bodies : {a c : Range} → cut s a ≡ cut m c → section_in s (Body a) ≡ section_in m (Body c) → Alike s m (Body a) (Body c)
  sequences : {a c d f : Range} {i j : ℕ} → cut s a ≡ cut m c → cut s d ≡ cut m f → section_in s (Sequence a d i) ≡ section_in m (Sequence c f j) → Alike s m (Sequence a d i) (Sequence c f j)

pub data Alikes (s m : List ℕ) : List Section → List Section → Type 0 where
  no_pair : Alikes s m [] []
  pair_and : {q r : Section} {qs rs : List Section} → Alike s m q r → Alikes s m qs rs → Alikes s m (q ∷ qs) (r ∷ rs)

module _ {s m : List ℕ} where
  alike_bytes : {q r : Section} → Alike s m q r → section_in s q ≡ section_in m r
  alike_bytes (bodies c i) = i
  alike_bytes (sequences c d i) = i

  flat_alike : {qs rs : List Section} → Alikes s m qs rs → flat_map (section_in s) qs ≡ flat_map (section_in m) rs
  unfolding flat_map
  flat_alike no_pair = refl
  flat_alike (pair_and a r) = rw (alike_bytes a, flat_alike r)

  length_alike : {qs rs : List Section} → Alikes s m qs rs → length qs ≡ length rs
  length_alike no_pair = refl
  length_alike (pair_and a r) = ap suc (length_alike r)

  append_alike : {qs rs ps ts : List Section} → Alikes s m qs rs → Alikes s m ps ts → Alikes s m (qs ++ ps) (rs ++ ts)
  append_alike no_pair b = b
  append_alike (pair_and a r) b = pair_and a (append_alike r b)

  take_alike : (k : ℕ) {qs rs : List Section} → Alikes s m qs rs → Alikes s m (take k qs) (take k rs)
  take_alike zero a = no_pair
  take_alike (suc k) no_pair = no_pair
  take_alike (suc k) (pair_and a r) = pair_and a (take_alike k r)

  drop_alike : (k : ℕ) {qs rs : List Section} → Alikes s m qs rs → Alikes s m (drop k qs) (drop k rs)
  drop_alike zero a = a
  drop_alike (suc k) no_pair = no_pair
  drop_alike (suc k) (pair_and a r) = drop_alike k r

  sequences_alike : {qs rs : List Section} → Alikes s m qs rs → Alikes s m (sequences_of qs) (sequences_of rs)
  unfolding sequences_of
  sequences_alike no_pair = no_pair
  sequences_alike (pair_and (bodies c i) r) = sequences_alike r
  sequences_alike (pair_and (sequences c d i) r) = pair_and (sequences c d i) (sequences_alike r)

  body_alike : {qs rs : List Section} → Alikes s m qs rs → 0 < (body_of qs).start → Alike s m (Body (body_of qs)) (Body (body_of rs))
  unfolding body_of
  body_alike no_pair l = absurd (omega arith)
  body_alike (pair_and (bodies c i) r) l = bodies c i
  body_alike (pair_and (sequences c d i) r) l = body_alike r l

  pub alike_cut : {a c : Range} → Alike s m (Body a) (Body c) → cut s a ≡ cut m c
  alike_cut (bodies c i) = c

-- ---- sections of s that are the sections of m, in that order

-- a part of a section, in s and in m
own_part : (s : List ℕ) (place size k n : ℕ) → k + n ≤ size → take n (drop (place + k) s) ≡ take n (drop k (take size (drop place s)))
own_part s place size k n l = sym (inner_take n k size (drop place s) l ∙ ap (take n) (drop-drop k place s))

new_part : (m ys ws rest : List ℕ) → ys ++ (ws ++ rest) ≡ section_bytes m → (k n : ℕ) → k + n ≤ length ws → take n (drop (20 + length ys + k) m) ≡ take n (drop k ws)
new_part m ys ws rest joined k n l =
    let j : k ≤ length ws = omega arith in
    let i : n ≤ length (drop k ws) = rw length-drop (omega arith) in
    left_part m ys (ws ++ rest) joined k n (rw length-append (omega arith)) ∙ ap (take n) (drop-append-le k ws rest j) ∙ take-append-le n (drop k ws) rest i

module _ {e : Edition} {s : List ℕ} (m : List ℕ) where
  one_alike : (ys : List ℕ) (q : Section) (rest : List ℕ) (held : ℕ) → Chunk e (section_in s q) q held → placed (place_of q) q ≡ q → ys ++ (section_in s q ++ rest) ≡ section_bytes m
      → Alike s m q (placed (20 + length ys) q)
  unfolding placed section_in section_size place_of cut
  one_alike ys None rest held c st joined = absurd (omega (arith, c.some))
  one_alike ys (Body range) rest held c st joined =
      let at = 20 + length ys in
      let place = place_of (Body range) in
      let w = section_in s (Body range) in
      let start : range.start ≡ place + 1 = cc in
      let here : at + 1 - 1 ≡ at + 0 = omega arith in
      let part : take range.length (drop range.start s) ≡ take range.length (drop (at + 1) m) =
      ap (λ (i : ℕ). take range.length (drop i s)) start ∙ own_part s place (1 + range.length) 1 range.length (omega arith)
      ∙ sym (new_part m ys w rest joined 1 range.length (omega (arith, c.long))) in
      let same : section_in s (Body range) ≡ section_in m (body_at at range.length) =
      rw here (sym (new_part m ys w rest joined 0 (1 + range.length) (omega (arith, c.long)) ∙ take_all (1 + range.length) w (omega (arith, c.long)))) in
      bodies part same
  one_alike ys (Sequence identifier documents number) rest held c st joined =
      let at = 20 + length ys in
      let place = place_of (Sequence identifier documents number) in
      let w = section_in s (Sequence identifier documents number) in
      let n = identifier.length in
      let d = documents.length in
      let start : identifier.start ≡ place + 5 = cc in
      let behind : documents.start ≡ place + (n + 6) = cc in
      let here : at + 5 - 5 ≡ at + 0 = omega arith in
      let name : take n (drop identifier.start s) ≡ take n (drop (at + 5) m) =
      ap (λ (i : ℕ). take n (drop i s)) start ∙ own_part s place (n + 6 + d) 5 n (omega arith)
      ∙ sym (new_part m ys w rest joined 5 n (omega (arith, c.long))) in
      let part : take d (drop documents.start s) ≡ take d (drop (at + (n + 6)) m) =
      ap (λ (i : ℕ). take d (drop i s)) behind ∙ own_part s place (n + 6 + d) (n + 6) d (omega arith)
      ∙ sym (new_part m ys w rest joined (n + 6) d (omega (arith, c.long))) in
      let same : section_in s (Sequence identifier documents number) ≡ section_in m (sequence_at at n d number) =
      rw here (sym (new_part m ys w rest joined 0 (n + 6 + d) (omega (arith, c.long)) ∙ take_all (n + 6 + d) w (omega (arith, c.long)))) in
      sequences name part same

  placed_alike : (ys : List ℕ) (qs : List Section) {h l : ℕ} → Chunks e s qs h l → ys ++ flat_map (section_in s) qs ≡ section_bytes m → Alikes s m qs (placed_from (20 + length ys) qs)
  unfolding flat_map placed_from
  placed_alike ys [] c joined = no_pair
  placed_alike ys (q ∷ qs) (chunk_and {m = held} c st r) joined =
      let next : 20 + length ys + section_size q ≡ 20 + length (ys ++ section_in s q) = omega (arith, length-append ys (section_in s q), c.long) in
      let rest : Alikes s m qs (placed_from (20 + length ys + section_size q) qs) =
      rw next (placed_alike (ys ++ section_in s q) qs r (append_assoc ys (section_in s q) (flat_map (section_in s) qs) ∙ joined)) in
      pair_and (one_alike ys q (flat_map (section_in s) qs) held c st joined) rest

-- ---- a message with its body moved

module _ (e : Edition) (s : List ℕ) (v : View) (b : Bytes s) (h : read e s ≡ ok v) (k : ℕ) where
  abbrev new : List ℕ
  new = moved s v k

  abbrev view : View
  view = moved_view v k

  abbrev sorted : List Section
  sorted = order e s v b h k

  pub bytes_moved : Bytes new
  unfolding moved
  bytes_moved = bytes_message (take 16 s) v.flags (flat_map (section_in s) (reordered k (sections_of v))) (bytes_take 16 s b) (bytes_flat s (reordered k (sections_of v)) b)

  sorted_alike : Alikes s new sorted (placed_from 20 sorted)
  sorted_alike = placed_alike new [] sorted (order_chunks e s v b h k) (sym (moved_seen e s v b h k).sections)

  -- what its view shows
  abbrev pub left : ℕ
  left = max_sections - length (placed_from 20 (reordered k (sections_of v)))

  pub view_sections : sections_of view ≡ placed_from 20 sorted ++ replicate left None
  unfolding moved_view sections_of
  view_sections =
      padded_shows (placed_from 20 (reordered k (sections_of v)))
      ∙ ap (λ (l : List Section). placed_from 20 l ++ replicate left None) (shown_reordered e s v b h k)

  old_sequences : sequences_of (sections_of v) ≡ sequences_of sorted
  old_sequences =
      ap sequences_of (all_shown e s v b h) ∙ sequences_nones (max_sections - length (reads h).sections.sections) (all e s v b h)
      ∙ sym (reordered_sequences k (all e s v b h))

  new_sequences : sequences_of (sections_of view) ≡ sequences_of (placed_from 20 sorted)
  new_sequences = ap sequences_of view_sections ∙ sequences_nones left (placed_from 20 sorted)

  old_body : body_of (sections_of v) ≡ body_of sorted
  old_body =
      ap body_of (all_shown e s v b h) ∙ body_nones (max_sections - length (reads h).sections.sections) (all e s v b h)
      ∙ sym (reordered_body k (all e s v b h))

  new_body : body_of (sections_of view) ≡ body_of (placed_from 20 sorted)
  new_body = ap body_of view_sections ∙ body_nones left (placed_from 20 sorted)

  pub all_alike : Alikes s new (sequences_of (sections_of v)) (sequences_of (sections_of view))
  all_alike = rw (old_sequences, new_sequences) (sequences_alike sorted_alike)

  pub both_bodies : Alike s new (Body (body_of (sections_of v))) (Body (body_of (sections_of view)))
  both_bodies = rw (old_body, new_body) (body_alike sorted_alike (order_body e s v b h k))

  reordered_alike : (n : ℕ) → Alikes s new (reordered n (sections_of v)) (reordered n (sections_of view))
  unfolding reordered
  reordered_alike n = append_alike (take_alike n all_alike) (pair_and both_bodies (drop_alike n all_alike))

  -- moved again
  moved_again : (n : ℕ) → moved new view n ≡ moved s v n
  unfolding moved moved_view
  moved_again n =
      let header : take 16 new ≡ take 16 s = ap (take 16) (moved_is e s v b h k) ∙ message_header (take 16 s) v.flags (bytes e s v b h k) (moved_form e s v b h k) in
      rw (header, ← flat_alike (reordered_alike n))

  same_count : sequence_count view ≡ sequence_count v
  unfolding sequence_count
  same_count = sym (length_alike all_alike)

  pub move_again : (n room : ℕ) → move e new n room ≡ move e s n room
  unfolding move moved_view
  move_again n room = go_on _ (moved_read e s v b h k) ∙ rw (same_count, moved_again n) (sym (go_on _ h))

again : (e : Edition) (s : List ℕ) (w : Written) (behind room : ℕ) → Bytes s → move e s behind room ≡ ok w → (other space : ℕ) → move e w.bytes other space ≡ move e s other space
unfolding move
again e s w behind room b h other space =
    bound (read e s) _ h λ v k rest.
    bound (read e (moved s v behind)) _ (passed _ _ _ _ (passed _ _ _ _ rest).1).1 λ u r same.
    rw (← ok_same same) (move_again e s v b k behind other space)

pub moving : Moving
moving = record {
  shows = λ e s v behind b h l. moved_read e s v b h behind;
  stays = λ e s v room b h. stays e s v b h room;
  again = again;
}
