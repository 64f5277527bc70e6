-- Document 01's trials T1 to T14, as one table.
-- Assumes nothing.
use Prim.Native.Nat.{ℕ}
use mathlib.Core.Bool.{false}
use mathlib.Core.Path.{◌≡◌, refl}
use mathlib.Core.List.{List, [], ◌∷◌, ◌++◌, map}
use lib.ListN.{take, drop, set, replicate}
use lib.IntN.{pos}
use Rattle.wire.specs.Outcome.{Outcome, ok, refused, refuse, ◌>>=◌}
use Rattle.wire.specs.Bytes.{word, word_at, under, signed, bits32, le32, until_zero, one_of}
use Rattle.wire.specs.Walk.{walk}
use Rattle.utf8.specs.Utf8.{forms}
use Rattle.utf8.specs.Text.{starts, character_of, characters_of, well_formed, text_at}
use Rattle.bson_values.specs.Value.{sized, cstring, string, binary, boolean, regex, pointer, code_with_scope, table, rule_in}
use Rattle.bson_elements.specs.Element.{max_elements, head, inside, element, size_of, element_size}
use Rattle.bson.specs.Document.{max_levels, frame, document_at}
use Rattle.opmsg.specs.Flags.{common, kept, all_known, checksummed, knows, house}
use Rattle.opmsg.specs.Layout.{max_length, checksum_size, sections_end, section_bytes, checksum_differs}
use Rattle.opmsg.specs.Sections.{max_sequences, max_sections, body_of, sequences_of, next_document, body_section, sequence_run, sequence_named, sequence_section, section_of, section_at}
use Rattle.opmsg.specs.Names.{same_text, among, distinct, name_text, element_names, part, body_names, identifiers, texts, names_of}
use Rattle.opmsg.specs.Dotted.{until_dot, elements_within, some_within, follow, found}
use Rattle.opmsg.specs.View.{padded, view_of, sections_of, sequence_count}
use Rattle.opmsg.specs.Read.{header, flagged, parts, distinct_names, content, read}
use Rattle.opmsg.specs.Ping.{ping}
use Rattle.message.specs.Message.{checksum, message, whole_length, Written}
use Rattle.message.specs.Forward.{forwarded, forward}
use Rattle.message.specs.Append.{sequence_bytes, appended, append}
use Rattle.opmsg.specs.declared.Edition.{Edition}
use Rattle.opmsg.specs.declared.Section.{Section}
use Rattle.opmsg.specs.declared.Section.TheVariants.{None, Body, Sequence}
use Rattle.opmsg.specs.declared.Entry.{Entry}
use Rattle.opmsg.specs.declared.View.{View}

abbrev pub bodies_only : Edition
bodies_only = record { bits = house.bits; sequences = false }

abbrev pub says : Section → Entry
says q = record { section = q }

-- PING's body
abbrev ping_body : Section
ping_body = Body (record { start = 21; length = 15 })

abbrev ping_shown : View
ping_shown = record { length = 36; request_id = pos 7; response_to = pos 0; flags = 0; entries = says ping_body ∷ replicate 16 (says None); elements = 1 }

-- PING with the sequence `d` of one empty document
abbrev with_d : List ℕ
with_d = set ping 0 48 ++ (1 ∷ 11 ∷ 0 ∷ 0 ∷ 0 ∷ 0x64 ∷ 0 ∷ 5 ∷ 0 ∷ 0 ∷ 0 ∷ 0 ∷ [])

abbrev with_d_shown : View
with_d_shown =
    let d : Section = Sequence (record { start = 41; length = 1 }) (record { start = 43; length = 5 }) 1 in
    record { length = 48; request_id = pos 7; response_to = pos 0; flags = 0; entries = says ping_body ∷ says d ∷ replicate 15 (says None); elements = 1 }

-- a body with `ping` twice
abbrev twice : List ℕ
twice = set (set (take 35 ping) 0 46) 21 25 ++ (take 10 (drop 25 ping) ++ (0 ∷ []))

data Trial : Type 0 where
  reads : Edition → List ℕ → Trial
  forwards : List ℕ → Trial
  appends : (identifier documents : List ℕ) → Trial

-- a trial's answer: the view, and the message where it writes one
abbrev run : Trial → Outcome Written
run (reads e s) = do
  v ← read e s
  ok (record { view = v; bytes = [] })
run (forwards s) = forward house s 36
run (appends i d) = append house ping i d 48

abbrev pub shown : View → List ℕ → Outcome Written
shown v m = ok (record { view = v; bytes = m })

trials :
    map run (reads house ping
    ∷ reads house []
    ∷ reads house (0xFF ∷ 0xFF ∷ 0xFF ∷ 0xFF ∷ drop 4 ping)
    ∷ reads house (take 35 ping)
    ∷ reads house (set ping 12 0xD3)
    ∷ reads house (set ping 12 0xD4)
    ∷ reads house (set ping 16 4)
    ∷ forwards (set ping 18 2)
    ∷ reads house (set (take 20 ping) 0 20)
    ∷ reads house (set ping 20 2)
    ∷ appends (0x64 ∷ []) (5 ∷ 0 ∷ 0 ∷ 0 ∷ 0 ∷ [])
    ∷ reads bodies_only with_d
    ∷ appends (0x70 ∷ 0x69 ∷ 0x6E ∷ 0x67 ∷ []) []
    ∷ reads house twice
    ∷ [])
    ≡ shown ping_shown []
    ∷ refused 1 0
    ∷ refused 2 0
    ∷ refused 3 0
    ∷ refused 6 12
    ∷ refused 4 12
    ∷ refused 8 16
    ∷ shown ping_shown ping
    ∷ refused 22 20
    ∷ refused 10 20
    ∷ shown with_d_shown with_d
    ∷ refused 10 36
    ∷ refused 24 41
    ∷ refused 23 36
    ∷ []
unfolding ◌>>=◌ refuse walk forms starts character_of characters_of well_formed text_at word word_at under signed bits32 until_zero one_of sized cstring string binary boolean regex pointer code_with_scope table rule_in max_levels max_elements frame head inside element document_at size_of element_size common kept all_known checksummed knows max_length checksum_size sections_end section_bytes checksum_differs max_sequences max_sections body_of sequences_of next_document body_section sequence_run sequence_named sequence_section section_of section_at same_text among distinct name_text element_names part body_names identifiers texts names_of until_dot elements_within some_within follow found padded view_of sections_of sequence_count header flagged parts distinct_names content read le32 checksum message whole_length forwarded forward sequence_bytes appended append
trials = refl
