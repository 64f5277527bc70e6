-- Worked examples of messages with dotted identifiers. Texts are in ASCII; a dot is 46.
-- Assumes nothing.
use Prim.Native.Nat.{ℕ, ◌+◌}
use mathlib.Core.Path.{◌≡◌, refl}
use mathlib.Core.List.{List, [], ◌∷◌, ◌++◌, map}
use lib.ListN.{length}
use Rattle.wire.specs.Outcome.{Outcome, ok, refused, refuse, ◌>>=◌}
use Rattle.wire.specs.Bytes.{word, word_at, under, signed, le32, until_zero, one_of}
use Rattle.wire.specs.Walk.{walk}
use Rattle.utf8.specs.Utf8.{forms}
use Rattle.utf8.specs.Text.{starts, character_of, characters_of, well_formed, text_at}
use Rattle.bson_values.specs.Value.{sized, string, code_with_scope, table, rule_in}
use Rattle.bson_elements.specs.Element.{max_elements, head, inside, element, size_of, element_size}
use Rattle.bson.specs.Document.{max_levels, frame, document_at}
use Rattle.opmsg.specs.Flags.{common, kept, all_known, checksummed, knows, house}
use Rattle.opmsg.specs.Layout.{max_length, checksum_size, sections_end, section_bytes, checksum_differs}
use Rattle.opmsg.specs.Sections.{max_sequences, max_sections, body_of, sequences_of, next_document, body_section, sequence_run, sequence_named, sequence_section, section_of, section_at}
use Rattle.opmsg.specs.Names.{same_text, among, distinct, name_text, element_names, part, body_names, identifiers, texts, names_of}
use Rattle.opmsg.specs.Dotted.{until_dot, elements_within, some_within, follow, found}
use Rattle.opmsg.specs.View.{padded, view_of, sections_of, sequence_count}
use Rattle.opmsg.specs.Read.{header, flagged, parts, distinct_names, content, read}
use Rattle.message.specs.Message.{checksum, message, whole_length}
use Rattle.message.specs.Append.{sequence_bytes, appended, append}
use Rattle.message_examples.proofs.Examples.{framed}

-- the body with `run`, a document with `p`, and with `f` and `o.t`; and sequences of no documents
abbrev small : List ℕ
small = 0 ∷ 26 ∷ 0 ∷ 0 ∷ 0 ∷ 3 ∷ 114 ∷ 117 ∷ 110 ∷ 0 ∷ 8 ∷ 0 ∷ 0 ∷ 0 ∷ 10 ∷ 112 ∷ 0 ∷ 0 ∷ 10 ∷ 102 ∷ 0 ∷ 10 ∷ 111 ∷ 46 ∷ 116 ∷ 0 ∷ 0 ∷ []

-- `run.p`
abbrev rp : List ℕ
rp = 1 ∷ 10 ∷ 0 ∷ 0 ∷ 0 ∷ 114 ∷ 117 ∷ 110 ∷ 46 ∷ 112 ∷ 0 ∷ []

-- `run.q`
abbrev rq : List ℕ
rq = 1 ∷ 10 ∷ 0 ∷ 0 ∷ 0 ∷ 114 ∷ 117 ∷ 110 ∷ 46 ∷ 113 ∷ 0 ∷ []

-- `f`
abbrev f : List ℕ
f = 1 ∷ 6 ∷ 0 ∷ 0 ∷ 0 ∷ 102 ∷ 0 ∷ []

-- `o.t`
abbrev ot : List ℕ
ot = 1 ∷ 8 ∷ 0 ∷ 0 ∷ 0 ∷ 111 ∷ 46 ∷ 116 ∷ 0 ∷ []

-- a message of such sections
abbrev message_of : List ℕ → List ℕ
message_of sections = framed (20 + length sections) 0 sections []

data Case : Type 0 where
  reads : (sections : List ℕ) → Case
  appends : (sections identifier : List ℕ) → Case

abbrev run_case : Case → Outcome (Unit {0})
run_case (reads sections) = do
  v ← read house (message_of sections)
  ok tt
run_case (appends sections identifier) = do
  w ← append house (message_of sections) identifier [] 999
  ok tt

-- the first identifier that clashes in any of the three ways is refused, wherever the body stands; appended are `run.p`, `run.q` and `run.p.x`
clashes :
    map run_case (reads (small ++ rq)
    ∷ reads (small ++ rp)
    ∷ reads (rp ++ small)
    ∷ reads (small ++ (rq ++ (f ++ rp)))
    ∷ reads (small ++ (rq ++ (rp ++ f)))
    ∷ reads (rq ++ (small ++ rq))
    ∷ reads (small ++ ot)
    ∷ appends (small ++ rq) (114 ∷ 117 ∷ 110 ∷ 46 ∷ 112 ∷ [])
    ∷ appends (rq ++ small) (114 ∷ 117 ∷ 110 ∷ 46 ∷ 113 ∷ [])
    ∷ appends small (114 ∷ 117 ∷ 110 ∷ 46 ∷ 112 ∷ 46 ∷ 120 ∷ [])
    ∷ [])
    ≡ ok tt
    ∷ refused 24 52
    ∷ refused 24 25
    ∷ refused 24 63
    ∷ refused 24 63
    ∷ refused 24 63
    ∷ refused 24 52
    ∷ refused 24 63
    ∷ refused 24 63
    ∷ ok tt
    ∷ []
unfolding ◌>>=◌ refuse walk forms starts character_of characters_of well_formed text_at word word_at under signed until_zero one_of le32 sized string code_with_scope table rule_in max_levels max_elements frame head inside element document_at size_of element_size common kept all_known checksummed knows max_length checksum_size sections_end section_bytes checksum_differs max_sequences max_sections body_of sequences_of next_document body_section sequence_run sequence_named sequence_section section_of section_at same_text among distinct name_text element_names part body_names identifiers texts names_of until_dot elements_within some_within follow found padded view_of sections_of sequence_count header flagged parts distinct_names content read checksum message whole_length sequence_bytes appended append
clashes = refl
