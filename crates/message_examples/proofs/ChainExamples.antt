-- A chain of three relays, by computation: it forwards what one relay forwards that knows what all three know.
-- Assumes nothing.
use Prim.Native.Nat.{ℕ}
use mathlib.Core.Bool.{true}
use mathlib.Core.Path.{◌≡◌, refl}
use mathlib.Core.List.{List, [], ◌∷◌}
use lib.ListN.{set, replicate}
use Rattle.wire.specs.Outcome.{refuse, ◌>>=◌}
use Rattle.wire.specs.Bytes.{word, word_at, under, signed, le32, until_zero, one_of}
use Rattle.wire.specs.Walk.{walk}
use Rattle.utf8.specs.Utf8.{forms}
use Rattle.utf8.specs.Text.{starts, character_of, characters_of, well_formed, text_at}
use Rattle.bson_values.specs.Value.{sized, cstring, string, binary, boolean, regex, pointer, code_with_scope, table, rule_in}
use Rattle.bson_elements.specs.Element.{max_elements, head, inside, element, size_of, element_size}
use Rattle.bson.specs.Document.{max_levels, frame, document_at}
use Rattle.opmsg.specs.Flags.{common, kept, all_known, checksummed, knows}
use Rattle.opmsg.specs.Layout.{max_length, checksum_size, sections_end, section_bytes, checksum_differs}
use Rattle.opmsg.specs.Sections.{max_sequences, max_sections, body_of, sequences_of, next_document, body_section, sequence_run, sequence_named, sequence_section, section_of, section_at}
use Rattle.opmsg.specs.Names.{same_text, among, distinct, name_text, element_names, part, body_names, identifiers, texts, names_of}
use Rattle.opmsg.specs.Dotted.{until_dot, elements_within, some_within, follow, found}
use Rattle.opmsg.specs.View.{padded, view_of}
use Rattle.opmsg.specs.Read.{header, flagged, parts, distinct_names, content, read}
use Rattle.opmsg.specs.Ping.{ping}
use Rattle.message.specs.Message.{checksum, message, output}
use Rattle.message.specs.Forward.{forwarded, forward}
use Rattle.message.specs.Editions.{sent}
use Rattle.message.specs.Chain.{Relay, through, both, shared}

-- relays that know some of the optional bits 16, 17 and 18, with outputs of several lengths
abbrev relay : (bits room : ℕ) → Relay
relay bits room = record { edition = record { bits = bits; sequences = true }; out = replicate room 0xAA }

abbrev first : Relay
first = relay 0x3_0000 36

abbrev others : List Relay
others = relay 0x6_0000 40 ∷ relay 0x7_0000 36 ∷ []

-- of PING with bits 16, 17 and 18 set, bit 17 is left
pub three :
    (shared first.edition others ≡ record { bits = 0x2_0000; sequences = true })
    × (through (first ∷ others) (set ping 18 7) ≡ set ping 18 2)
    × (sent (record { bits = 0x2_0000; sequences = true }) (set ping 18 7) (replicate 50 0xBB) ≡ set ping 18 2)
unfolding ◌>>=◌ refuse walk forms starts character_of characters_of well_formed text_at word word_at under signed until_zero one_of sized cstring string binary boolean regex pointer code_with_scope table rule_in max_levels max_elements frame head inside element document_at size_of element_size common kept all_known checksummed knows max_length checksum_size sections_end section_bytes checksum_differs max_sequences max_sections body_of sequences_of next_document body_section sequence_run sequence_named sequence_section section_of section_at same_text among distinct name_text element_names part body_names identifiers texts names_of until_dot elements_within some_within follow found padded view_of header flagged parts distinct_names content read le32 checksum message output forwarded forward sent through both shared
three = (refl, refl, refl)
