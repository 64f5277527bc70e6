-- Text in messages: refusal 27 as reading gives it, and as writing, appending and moving the body hand it on.
-- Assumes nothing.
use Prim.Native.Nat.{ℕ}
use mathlib.Core.Path.{◌≡◌, refl}
use mathlib.Core.List.{List, [], ◌∷◌, ◌++◌, map, flat_map}
use lib.ListN.{take, drop, set}
use lib.IntN.{pos}
use Rattle.wire.specs.Outcome.{Outcome, ok, refused, refuse, ◌>>=◌}
use Rattle.wire.specs.Bytes.{word, word_at, under, signed, bits32, le32, until_zero, one_of}
use Rattle.wire.specs.Walk.{walk}
use Rattle.utf8.specs.Utf8.{forms}
use Rattle.utf8.specs.Text.{starts, character_of, characters_of, well_formed, text_at}
use Rattle.bson_values.specs.Value.{sized, cstring, string, binary, boolean, regex, pointer, code_with_scope, table, rule_in}
use Rattle.bson_elements.specs.Element.{max_elements, head, inside, element, size_of, element_size}
use Rattle.bson.specs.Document.{max_levels, frame, document_at}
use Rattle.opmsg.specs.Flags.{common, kept, all_known, checksummed, knows, house}
use Rattle.opmsg.specs.Layout.{max_length, checksum_size, sections_end, section_bytes, checksum_differs}
use Rattle.opmsg.specs.Sections.{max_sequences, max_sections, place_of, section_size, body_of, sequences_of, next_document, body_section, sequence_run, sequence_named, sequence_section, section_of, section_at}
use Rattle.opmsg.specs.Names.{same_text, among, distinct, name_text, element_names, part, body_names, identifiers, texts, names_of}
use Rattle.opmsg.specs.Dotted.{until_dot, elements_within, some_within, follow, found}
use Rattle.opmsg.specs.Ping.{ping}
use Rattle.opmsg.specs.View.{padded, view_of, sections_of, sequence_count}
use Rattle.opmsg.specs.Read.{header, flagged, parts, distinct_names, content, read}
use Rattle.message.specs.Message.{checksum, message, whole_length, viewed}
use Rattle.message.specs.Write.{written, write}
use Rattle.message.specs.Append.{sequence_bytes, appended, append}
use Rattle.message.specs.Move.{section_in, reordered, moved, move}
use Rattle.opmsg.specs.declared.View.{View}

-- PING with a sequence whose identifier has two bytes, and of one document
abbrev with_sequence : (identifier document : List ℕ) → List ℕ
with_sequence identifier document = set ping 0 49 ++ (1 ∷ 12 ∷ 0 ∷ 0 ∷ 0 ∷ identifier ++ (0 ∷ document))

-- the number of sequences, or the refusal
abbrev sequences_or : Outcome View → Outcome ℕ
sequences_or o = do
  v ← o
  ok (sequence_count v)

-- PING; with the name `p`, FC, `ng`; with an identifier `ü`; with FC FC, also before a document of a bad length; with `d` and a character cut off;
-- with an empty identifier before a broken byte: 13 comes first
reading :
    map (λ s. sequences_or (read house s)) (ping
    ∷ set ping 27 0xFC
    ∷ with_sequence (0xC3 ∷ 0xBC ∷ []) (5 ∷ 0 ∷ 0 ∷ 0 ∷ 0 ∷ [])
    ∷ with_sequence (0xFC ∷ 0xFC ∷ []) (5 ∷ 0 ∷ 0 ∷ 0 ∷ 0 ∷ [])
    ∷ with_sequence (0xFC ∷ 0xFC ∷ []) (4 ∷ 0 ∷ 0 ∷ 0 ∷ 0 ∷ [])
    ∷ with_sequence (0x64 ∷ 0xC3 ∷ []) (5 ∷ 0 ∷ 0 ∷ 0 ∷ 0 ∷ [])
    ∷ with_sequence (0 ∷ 0xFC ∷ []) (5 ∷ 0 ∷ 0 ∷ 0 ∷ 0 ∷ [])
    ∷ [])
    ≡ ok 0 ∷ refused 27 27 ∷ ok 1 ∷ refused 27 41 ∷ refused 27 41 ∷ refused 27 42 ∷ refused 13 41 ∷ []
unfolding ◌>>=◌ refuse walk forms starts character_of characters_of well_formed text_at word word_at under signed bits32 until_zero one_of sized cstring string binary boolean regex pointer code_with_scope table rule_in max_levels max_elements frame head inside element document_at size_of element_size common kept all_known checksummed knows max_length checksum_size sections_end section_bytes checksum_differs max_sequences max_sections body_of sequences_of next_document body_section sequence_run sequence_named sequence_section section_of section_at same_text among distinct name_text element_names part body_names identifiers texts names_of until_dot elements_within some_within follow found padded view_of sections_of sequence_count header flagged parts distinct_names content read le32 checksum message whole_length viewed written write sequence_bytes appended append
reading = refl

-- PING's body written with FC in its name: 27 where it stands in the message, behind 25 and 15
writing :
    map (λ room. sequences_or (viewed (write house (pos 7) (pos 0) 0 (set (take 15 (drop 21 ping)) 6 0xFC) room))) (36 ∷ 35 ∷ [])
    ≡ refused 27 27 ∷ refused 25 0 ∷ []
unfolding ◌>>=◌ refuse walk forms starts character_of characters_of well_formed text_at word word_at under signed bits32 until_zero one_of sized cstring string binary boolean regex pointer code_with_scope table rule_in max_levels max_elements frame head inside element document_at size_of element_size common kept all_known checksummed knows max_length checksum_size sections_end section_bytes checksum_differs max_sequences max_sections body_of sequences_of next_document body_section sequence_run sequence_named sequence_section section_of section_at same_text among distinct name_text element_names part body_names identifiers texts names_of until_dot elements_within some_within follow found padded view_of sections_of sequence_count header flagged parts distinct_names content read le32 checksum message whole_length viewed written write sequence_bytes appended append
writing = refl

-- the identifier FC FC appended to PING: 27 at its place in the new message, behind 25; `d`, zero, FC is 13
appending :
    map (λ room. sequences_or (viewed (append house ping (0xFC ∷ 0xFC ∷ []) (5 ∷ 0 ∷ 0 ∷ 0 ∷ 0 ∷ []) room))) (49 ∷ 48 ∷ [])
    ++ (sequences_or (viewed (append house ping (0x64 ∷ 0 ∷ 0xFC ∷ []) [] 49)) ∷ [])
    ≡ refused 27 41 ∷ refused 25 0 ∷ refused 13 41 ∷ []
unfolding ◌>>=◌ refuse walk forms starts character_of characters_of well_formed text_at word word_at under signed bits32 until_zero one_of sized cstring string binary boolean regex pointer code_with_scope table rule_in max_levels max_elements frame head inside element document_at size_of element_size common kept all_known checksummed knows max_length checksum_size sections_end section_bytes checksum_differs max_sequences max_sections body_of sequences_of next_document body_section sequence_run sequence_named sequence_section section_of section_at same_text among distinct name_text element_names part body_names identifiers texts names_of until_dot elements_within some_within follow found padded view_of sections_of sequence_count header flagged parts distinct_names content read le32 checksum message whole_length viewed written write sequence_bytes appended append
appending = refl

-- PING's body moved behind a sequence `ü`, and behind FC FC: 27 where it stands, before 28 and 25
moving :
    map (λ s. sequences_or (viewed (move house s 1 49))) (with_sequence (0xC3 ∷ 0xBC ∷ []) (5 ∷ 0 ∷ 0 ∷ 0 ∷ 0 ∷ []) ∷ with_sequence (0xFC ∷ 0xFC ∷ []) (5 ∷ 0 ∷ 0 ∷ 0 ∷ 0 ∷ []) ∷ [])
    ++ (sequences_or (viewed (move house (with_sequence (0xFC ∷ 0xFC ∷ []) (5 ∷ 0 ∷ 0 ∷ 0 ∷ 0 ∷ [])) 2 0)) ∷ [])
    ≡ ok 1 ∷ refused 27 41 ∷ refused 27 41 ∷ []
unfolding ◌>>=◌ refuse walk forms starts character_of characters_of well_formed text_at word word_at under signed until_zero one_of sized cstring string binary boolean regex pointer code_with_scope table rule_in max_levels max_elements frame head inside element document_at size_of element_size common kept all_known checksummed knows max_length checksum_size sections_end section_bytes checksum_differs max_sequences max_sections place_of section_size body_of sequences_of next_document body_section sequence_run sequence_named sequence_section section_of section_at same_text among distinct name_text element_names part body_names identifiers texts names_of until_dot elements_within some_within follow found padded view_of sections_of sequence_count header flagged parts distinct_names content read le32 checksum message whole_length viewed flat_map section_in reordered moved move
moving = refl
