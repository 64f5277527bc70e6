-- Worked examples of the list of sections, and of moving the body.
-- Assumes nothing.
use Prim.Native.Nat.{ℕ, zero, suc, ◌+◌}
use mathlib.Core.Path.{◌≡◌, refl}
use mathlib.Core.List.{List, [], ◌∷◌, ◌++◌, map, flat_map}
use lib.ListN.{set, replicate}
use lib.IntN.{pos}
use Rattle.wire.specs.Outcome.{Outcome, ok, refused, refuse, ◌>>=◌}
use Rattle.wire.specs.Bytes.{word, word_at, under, signed, bits32, le32, until_zero, one_of}
use Rattle.wire.specs.Walk.{walk}
use Rattle.utf8.specs.Utf8.{forms}
use Rattle.utf8.specs.Text.{starts, character_of, characters_of, well_formed, text_at}
use Rattle.crc32c_tables.specs.Steps.{shift_bit, shift_bits}
use Rattle.crc32c.specs.Crc.{into_byte, register_after, crc_of}
use Rattle.bson_values.specs.Value.{sized, table, rule_in}
use Rattle.bson_elements.specs.Element.{max_elements, head, inside, element, size_of, element_size}
use Rattle.bson.specs.Document.{max_levels, frame, document_at}
use Rattle.opmsg.specs.Flags.{common, kept, all_known, checksummed, knows, house}
use Rattle.opmsg.specs.Layout.{max_length, checksum_size, sections_end, section_bytes, checksum_differs}
use Rattle.opmsg.specs.Sections.{max_sequences, max_sections, place_of, section_size, body_of, sequences_of, next_document, body_section, sequence_run, sequence_named, sequence_section, section_of, section_at}
use Rattle.opmsg.specs.Names.{same_text, among, distinct, name_text, element_names, part, body_names, identifiers, texts, names_of}
use Rattle.opmsg.specs.Dotted.{until_dot, elements_within, some_within, follow, found}
use Rattle.opmsg.specs.View.{padded, view_of, sections_of, sequence_count}
use Rattle.opmsg.specs.Read.{header, flagged, parts, distinct_names, content, read}
use Rattle.message.specs.Message.{checksum, message, whole_length, Written, output}
use Rattle.message.specs.Forward.{forwarded, forward}
use Rattle.message.specs.Write.{written, write}
use Rattle.message.specs.Append.{sequence_bytes, appended, append}
use Rattle.message.specs.Move.{section_in, reordered, moved, move}
use Rattle.message.specs.Moving.{sequences_before, placed, placed_from, moved_view}
use Rattle.message.specs.RoundTrip.{first_message, cut, appended_to, remade, remade_in_order}
use Rattle.opmsg.specs.declared.Edition.{Edition}
use Rattle.opmsg.specs.declared.Section.TheVariants.{None, Body, Sequence}
use Rattle.opmsg.specs.declared.Entry.{Entry}
use Rattle.opmsg.specs.declared.View.{View}
use Rattle.message_examples.proofs.Trials.{bodies_only, says, shown}

-- a message that requests 7: its length, its flag word, its sections and its checksum
abbrev pub framed : (length flags : ℕ) → (sections checksum : List ℕ) → List ℕ
framed length flags sections checksum = le32 length ++ ((7 ∷ 0 ∷ 0 ∷ 0 ∷ 0 ∷ 0 ∷ 0 ∷ 0 ∷ 0xDD ∷ 7 ∷ 0 ∷ 0 ∷ []) ++ (le32 flags ++ (sections ++ checksum)))

-- sections: the sequence `a` of one empty document, the body with `x`, and the sequence `b` of no documents
abbrev a : List ℕ
a = 1 ∷ 11 ∷ 0 ∷ 0 ∷ 0 ∷ 0x61 ∷ 0 ∷ 5 ∷ 0 ∷ 0 ∷ 0 ∷ 0 ∷ []

abbrev x : List ℕ
x = 0 ∷ 12 ∷ 0 ∷ 0 ∷ 0 ∷ 0x10 ∷ 0x78 ∷ 0 ∷ 1 ∷ 0 ∷ 0 ∷ 0 ∷ 0 ∷ []

abbrev b : List ℕ
b = 1 ∷ 6 ∷ 0 ∷ 0 ∷ 0 ∷ 0x62 ∷ 0 ∷ []

-- the body between them; bit 17 is set and not known, and there is a checksum
abbrev between : List ℕ
between = framed 56 0x2_0001 (a ++ (x ++ b)) (173 ∷ 205 ∷ 108 ∷ 231 ∷ [])

abbrev shows : List Entry → View
shows entries = record { length = 56; request_id = pos 7; response_to = pos 0; flags = 1; entries = entries; elements = 1 }

abbrev between_shown : View
between_shown =
    shows (says (Sequence (record { start = 25; length = 1 }) (record { start = 27; length = 5 }) 1)
    ∷ says (Body (record { start = 33; length = 12 }))
    ∷ says (Sequence (record { start = 50; length = 1 }) (record { start = 52; length = 0 }) 0)
    ∷ replicate 14 (says None))

abbrev first_shown : View
first_shown =
    shows (says (Body (record { start = 21; length = 12 }))
    ∷ says (Sequence (record { start = 38; length = 1 }) (record { start = 40; length = 5 }) 1)
    ∷ says (Sequence (record { start = 50; length = 1 }) (record { start = 52; length = 0 }) 0)
    ∷ replicate 14 (says None))

abbrev last_shown : View
last_shown =
    shows (says (Sequence (record { start = 25; length = 1 }) (record { start = 27; length = 5 }) 1)
    ∷ says (Sequence (record { start = 37; length = 1 }) (record { start = 39; length = 0 }) 0)
    ∷ says (Body (record { start = 40; length = 12 }))
    ∷ replicate 14 (says None))

-- its messages without bit 17, in the three orders
abbrev first : List ℕ
first = framed 56 1 (x ++ (a ++ b)) (171 ∷ 120 ∷ 223 ∷ 91 ∷ [])

abbrev kept_between : List ℕ
kept_between = framed 56 1 (a ++ (x ++ b)) (15 ∷ 218 ∷ 133 ∷ 26 ∷ [])

abbrev last : List ℕ
last = framed 56 1 (a ++ (b ++ x)) (70 ∷ 241 ∷ 228 ∷ 145 ∷ [])

data Case : Type 0 where
  reads : Edition → List ℕ → Case
  forwards : List ℕ → Case
  moves : List ℕ → (behind room : ℕ) → Case

abbrev run : Case → Outcome Written
run (reads e s) = do
  v ← read e s
  ok (record { view = v; bytes = [] })
run (forwards s) = forward house s 56
run (moves s behind room) = move house s behind room

-- reading shows the sections in order; a relay that doesn't know kind 1 refuses the first sequence; the body goes behind none, one or both
-- sequences, and behind one, where it stands, it is forwarded; 28 comes before 25 and behind reading's refusals, of which 9 is one
moving :
    map run (reads house between
    ∷ reads bodies_only between
    ∷ reads bodies_only first
    ∷ moves between 0 56
    ∷ moves between 1 56
    ∷ forwards between
    ∷ moves between 2 99
    ∷ moves between 3 0
    ∷ moves between 2 55
    ∷ moves (set between 55 0) 3 0
    ∷ moves last 0 56
    ∷ [])
    ≡ shown between_shown []
    ∷ refused 10 20
    ∷ refused 10 33
    ∷ shown first_shown first
    ∷ shown between_shown kept_between
    ∷ shown between_shown kept_between
    ∷ shown last_shown last
    ∷ refused 28 0
    ∷ refused 25 0
    ∷ refused 9 52
    ∷ shown first_shown first
    ∷ []
unfolding ◌>>=◌ refuse shift_bit shift_bits into_byte register_after crc_of walk forms starts character_of characters_of well_formed text_at word word_at under signed bits32 until_zero one_of le32 sized table rule_in max_levels max_elements frame head inside element document_at size_of element_size common kept all_known checksummed knows max_length checksum_size sections_end section_bytes checksum_differs max_sequences max_sections place_of section_size body_of sequences_of next_document body_section sequence_run sequence_named sequence_section section_of section_at same_text among distinct name_text element_names part body_names identifiers texts names_of until_dot elements_within some_within follow found padded view_of sections_of sequence_count header flagged parts distinct_names content read checksum message whole_length forwarded forward flat_map section_in reordered moved move
moving = refl

-- the three views, one from the other
views : (moved_view between_shown 0 ≡ first_shown) × (moved_view between_shown 1 ≡ between_shown) × (moved_view first_shown 2 ≡ last_shown)
unfolding max_sections section_size body_of sequences_of padded sections_of reordered placed placed_from moved_view
views = (refl, refl, refl)

-- so many sequences of no documents, the first of which is named by a letter
abbrev several : (count letter : ℕ) → List ℕ
several zero letter = []
several (suc count) letter = 1 ∷ 6 ∷ 0 ∷ 0 ∷ 0 ∷ letter ∷ 0 ∷ several count (letter + 1)

-- sixteen, the body among them
abbrev full : List ℕ
full = framed 145 0 (several 3 0x61 ++ (x ++ several 13 0x64)) []

abbrev before : Outcome Written → Outcome ℕ
before o = do
  w ← o
  ok (sequences_before (sections_of w.view))

-- the list is full: the body goes behind none to sixteen sequences, and a seventeenth is refused
filled :
    map before (forward house full 145
    ∷ move house full 0 145
    ∷ move house full 16 145
    ∷ move house full 17 145
    ∷ move house (set (full ++ several 1 0x71) 0 152) 0 152
    ∷ [])
    ≡ ok 3 ∷ ok 0 ∷ ok 16 ∷ refused 28 0 ∷ refused 14 145 ∷ []
unfolding ◌>>=◌ refuse shift_bit shift_bits into_byte register_after crc_of walk forms starts character_of characters_of well_formed text_at word word_at under signed bits32 until_zero one_of le32 sized table rule_in max_levels max_elements frame head inside element document_at size_of element_size common kept all_known checksummed knows max_length checksum_size sections_end section_bytes checksum_differs max_sequences max_sections place_of section_size body_of sequences_of next_document body_section sequence_run sequence_named sequence_section section_of section_at same_text among distinct name_text element_names part body_names identifiers texts names_of until_dot elements_within some_within follow found padded view_of sections_of sequence_count header flagged parts distinct_names content read checksum message whole_length forwarded forward flat_map section_in reordered moved move sequences_before
filled = refl

-- the round trip of a message whose body stands between sequences
round :
    remade_in_order house kept_between between_shown (λ i. replicate 56 0) (replicate 60 0) ≡ kept_between
unfolding ◌>>=◌ refuse shift_bit shift_bits into_byte register_after crc_of walk forms starts character_of characters_of well_formed text_at word word_at under signed bits32 until_zero one_of le32 sized table rule_in max_levels max_elements frame head inside element document_at size_of element_size common kept all_known checksummed knows max_length checksum_size sections_end section_bytes checksum_differs max_sequences max_sections place_of section_size body_of sequences_of next_document body_section sequence_run sequence_named sequence_section section_of section_at same_text among distinct name_text element_names part body_names identifiers texts names_of until_dot elements_within some_within follow found padded view_of sections_of sequence_count header flagged parts distinct_names content read checksum message whole_length output written write sequence_bytes appended append flat_map section_in reordered moved move sequences_before first_message cut appended_to remade remade_in_order
round = refl
