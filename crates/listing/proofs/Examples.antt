-- Listings: document 01's example, and streams that end early or have a length that is refused.
-- Assumes nothing.
use Prim.Native.Nat.{ℕ}
use mathlib.Core.Path.{◌≡◌, refl}
use mathlib.Core.List.{List, [], ◌++◌}
use lib.ListN.{take, replicate}
use Rattle.wire.specs.Outcome.{refuse, ◌>>=◌}
use Rattle.wire.specs.Bytes.{word, word_at, under, signed, le32, until_zero, one_of}
use Rattle.wire.specs.Walk.{walk}
use Rattle.utf8.specs.Utf8.{forms}
use Rattle.utf8.specs.Text.{starts, character_of, characters_of, well_formed, text_at}
use Rattle.bson_values.specs.Value.{sized, table, rule_in}
use Rattle.bson_elements.specs.Element.{max_elements, head, inside, element, size_of, element_size}
use Rattle.bson.specs.Document.{max_levels, frame, document_at}
use Rattle.opmsg.specs.Flags.{common, kept, all_known, checksummed, knows}
use Rattle.opmsg.specs.Layout.{max_length, checksum_size, sections_end, section_bytes, checksum_differs}
use Rattle.opmsg.specs.Sections.{max_sections, body_of, sequences_of, body_section, section_of, section_at}
use Rattle.opmsg.specs.Names.{same_text, among, distinct, name_text, element_names, part, body_names, identifiers, texts, names_of}
use Rattle.opmsg.specs.Dotted.{until_dot, elements_within, some_within, follow, found}
use Rattle.opmsg.specs.View.{padded, view_of, sections_of, sequence_count}
use Rattle.opmsg.specs.Read.{header, flagged, parts, distinct_names, content, read}
use Rattle.opmsg.specs.Ping.{ping}
use Rattle.listing_lines.specs.Decimal.{digits, decimal, signed_decimal}
use Rattle.listing_lines.specs.Words.{ascii}
use Rattle.listing_lines.specs.Fields.{line}
use Rattle.listing_lines.specs.Lines.{first_line, message_line, big_line, bad_line, end_line}
use Rattle.listing.specs.Next.{buffer_length, long, step_of, judge, next}
use Rattle.listing.specs.Listing.{entries_of, entries, messages_of, lines, listed, listing, Example}

-- the first bytes of a message of n bytes: its length alone is looked at
abbrev starting : ℕ → List ℕ
starting n = le32 n ++ replicate 12 0

record Listings : Type 0 where
  document : Example
  -- no input
  empty : listing [] ≡ ascii "relay-log\t2\nend\t0\n"
  -- a stream that ends inside a passed message, also of the largest length
  cut : listing (ping ++ starting 65537) ≡ ascii "relay-log\t2\nmsg\t0\t36\t7\t0\t0\t0\t1\nbad\t36\t3\t0\nend\t1\n"
  cut_largest : listing (starting 48000000) ≡ ascii "relay-log\t2\nbad\t0\t3\t0\nend\t0\n"
  -- one that ends inside a message that would be read
  cut_read : listing (starting 65536) ≡ ascii "relay-log\t2\nbad\t0\t3\t0\nend\t0\n"
  -- 1 and 2 come first: 15 bytes; one byte too many; a length of −1
  few : listing (take 15 (starting 65537)) ≡ ascii "relay-log\t2\nbad\t0\t1\t0\nend\t0\n"
  too_long : listing (starting 48000001) ≡ ascii "relay-log\t2\nbad\t0\t2\t0\nend\t0\n"
  negative : listing (starting 0xFFFF_FFFF) ≡ ascii "relay-log\t2\nbad\t0\t2\t0\nend\t0\n"

listings : Listings
unfolding ◌>>=◌ refuse forms starts character_of characters_of well_formed text_at word word_at under signed le32 until_zero one_of walk sized table rule_in max_levels max_elements frame head inside element document_at size_of element_size common kept all_known checksummed knows max_length checksum_size sections_end section_bytes checksum_differs max_sections body_of sequences_of body_section section_of section_at same_text among distinct name_text element_names part body_names identifiers texts names_of until_dot elements_within some_within follow found padded view_of sections_of sequence_count header flagged parts distinct_names content read digits decimal signed_decimal line first_line message_line big_line bad_line end_line buffer_length long step_of judge next entries_of entries messages_of lines listed listing
listings = record { document = refl; empty = refl; cut = refl; cut_largest = refl; cut_read = refl; few = refl; too_long = refl; negative = refl }

pub example : Example
example = listings.document
