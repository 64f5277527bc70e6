-- What the program lists, read again.
-- Assumes nothing.
use Prim.Native.Nat.{ℕ}
use mathlib.Core.Path.{◌≡◌, refl}
use mathlib.Core.List.{[], ◌∷◌, ◌++◌, map}
use lib.ListN.{take, replicate}
use Rattle.wire.specs.Outcome.{Outcome, ok, refuse, ◌>>=◌}
use Rattle.wire.specs.Bytes.{word, word_at, under, signed, le32, until_zero, one_of}
use Rattle.wire.specs.Walk.{walk}
use Rattle.utf8.specs.Utf8.{forms}
use Rattle.utf8.specs.Text.{starts, character_of, characters_of, well_formed, text_at}
use Rattle.bson_values.specs.Value.{sized, table, rule_in}
use Rattle.bson_elements.specs.Element.{max_elements, head, inside, element, size_of, element_size}
use Rattle.bson.specs.Document.{max_levels, frame, document_at}
use Rattle.opmsg.specs.Flags.{common, kept, all_known, checksummed, knows}
use Rattle.opmsg.specs.Layout.{max_length, checksum_size, sections_end, section_bytes, checksum_differs}
use Rattle.opmsg.specs.Sections.{max_sections, body_of, sequences_of, body_section, section_of, section_at}
use Rattle.opmsg.specs.Names.{same_text, among, distinct, name_text, element_names, part, body_names, identifiers, texts}
use Rattle.opmsg.specs.View.{padded, view_of, sections_of, sequence_count}
use Rattle.opmsg.specs.Read.{header, flagged, parts, distinct_names, content, read}
use Rattle.listing_lines.specs.Decimal.{digits, decimal, signed_decimal}
use Rattle.listing_lines.specs.Fields.{line}
use Rattle.listing_lines.specs.Lines.{first_line, message_line, big_line, bad_line, end_line}
use Rattle.listing.specs.Next.{buffer_length, long, step_of, judge, next}
use Rattle.listing.specs.Listing.{entries_of, entries, messages_of, lines, listed, ping_and_three, listing}
use Rattle.listing_stored.specs.Version.{versions}
use Rattle.listing_fields.specs.Numbers.{until_newline, ahead, fields_of, spelled, spelled_signed, is_signed32, number, between, signed_number}
use Rattle.listing_stored.specs.Stored.{message, big, bad, end, kinds, rule_of, line_at, version_of, Told, read_listing}

abbrev shown : (version messages : ℕ) → Outcome Told
shown version messages = ok (record { version = version; messages = messages })

-- no input; document 01's example; PING three times and a message cut off; a message whose length is below 16
own :
    map (λ s. read_listing (listing s)) ([]
    ∷ ping_and_three
    ∷ (take 36 ping_and_three ++ take 36 ping_and_three ++ take 36 ping_and_three ++ le32 65537 ++ replicate 12 0)
    ∷ (le32 15 ++ replicate 12 0)
    ∷ [])
    ≡ shown 2 0 ∷ shown 2 1 ∷ shown 2 3 ∷ shown 2 0 ∷ []
unfolding refuse ◌>>=◌ word word_at under signed le32 until_zero one_of walk forms starts character_of characters_of well_formed text_at sized table rule_in max_elements head inside element size_of element_size max_levels frame document_at common kept all_known checksummed knows max_length checksum_size sections_end section_bytes checksum_differs max_sections body_of sequences_of body_section section_of section_at same_text among distinct name_text element_names part body_names identifiers texts padded view_of sections_of sequence_count header flagged parts distinct_names content read digits decimal signed_decimal line first_line message_line big_line bad_line end_line buffer_length long step_of judge next entries_of entries messages_of lines listed listing versions until_newline ahead fields_of spelled spelled_signed is_signed32 number between signed_number message big bad end kinds rule_of line_at version_of read_listing
own = refl
