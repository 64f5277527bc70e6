-- Reading accepts exactly the messages of `specs/Grammar.antt`, and shows exactly what they show.
-- Assumes nothing.
use Prim.Native.Nat.{ℕ, ◌+◌, ◌-◌, ◌^◌, ◌≤◌, ◌<◌}
use mathlib.Core.Bool.{Bool, true, false}
use mathlib.Core.Path.{◌≡◌, refl, sym, ap, ◌∙◌}
use mathlib.Core.Logic.{◌↔◌}
use mathlib.Core.List.{List, [], ◌∷◌, ◌++◌}
use native.Mathlib.Omega.{arith}
use native.Mathlib.Nat.{zero-add}
use lib.ListN.{length, take, drop, length-take, length-drop, take-append-drop}
use lib.Seq.{take_at, length-take-le}
use borrow.Author.Tests.{eqb-false, ne_eqb}
use Rattle.wire.specs.Outcome.{ok}
use Rattle.wire.specs.Bytes.{Bytes, word_at, signed}
use Rattle.wire.proofs.Outcome.{ok_same}
use Rattle.wire.proofs.Bytes.{bytes_drop, bytes_take, word_at_lt}
use Rattle.bson_elements.specs.Element.{max_elements}
use Rattle.opmsg.specs.Layout.{message_length, flag_word, sections_end, section_bytes}
use Rattle.opmsg.specs.Sections.{max_sequences, Parts, nothing, body_of, sequences_of}
use Rattle.opmsg.specs.Names.{body_names, body_elements, names_of, texts}
use Rattle.opmsg.specs.Names as Read
use Rattle.opmsg.specs.Dotted.{found}
use Rattle.opmsg.specs.Flags.{kept}
use Rattle.opmsg.specs.View.{padded, view_of}
use Rattle.opmsg.specs.Read.{parts, read}
use Rattle.opmsg.proofs.Accepted.{reads, accepted}
use Rattle.opmsg.proofs.Accepted as Passed
use Rattle.opmsg.proofs.Bits.{all_known_known, known_all_known, bits_known, known_bits}
use Rattle.opmsg.proofs.Limits.{max_length_small}
use Rattle.opmsg_element_names.proofs.Names.{names_of_lem}
use Rattle.opmsg_element_names.proofs.Texts.{not_both}
use Rattle.message.specs.Message.{message, whole_length}
use Rattle.message.specs.Editions.{Accepts}
use Rattle.message.proofs.Message.{Seen}
use Rattle.message.proofs.Tiles.{Tiled, all_tiled}
use Rattle.message.proofs.Chunks.{before_body}
use Rattle.opmsg_grammar.specs.Grammar.{◌among◌, Differ, Names, top, Leads, bodies, identifiers, listed, Message}
use Rattle.opmsg_grammar.specs.Reading.{Begins, ReadsMessages}
use Rattle.opmsg_grammar.proofs.Differ.{differ_names, differ_all, differ_behind}
use Rattle.opmsg_grammar.proofs.Names.{inner_filled, names_read, names_lead}
use Rattle.opmsg_grammar.proofs.Sound.{SectionsAre, sections_are}
use Rattle.opmsg_grammar.proofs.Complete.{sections_complete}
use Rattle.opmsg_grammar.proofs.Trees.{BodyIs, listed_sequences, listed_identifiers, body_is, bodies_one, one_listed}
use Rattle.opmsg_grammar.proofs.Form.{header_of, form, made_whole, read_form, made_words, made_seen, made_front}
use Rattle.opmsg.specs.declared.Edition.{Edition}
use Rattle.opmsg.specs.declared.Section as Shown
use Rattle.opmsg.specs.declared.View.{View}

-- ---- names, as the grammar and as reading has them

not_true : (t : Bool) → ¬ (t ≡ true) → t ≡ false
not_true true h = absurd (h refl)
not_true false h = refl

module _ (xs : List ℕ) (n : ℕ) (qs : List Shown.Section) (names : Names) (b : BodyIs [] xs n qs names) (few : n ≤ max_elements) where
  limit : b.elements ≤ max_elements
  limit = omega (arith, b.few)

  -- the names of the body
  body_names_lem : texts (body_names xs qs) ≡ top names
  unfolding body_names
  body_names_lem =
      rw (b.content, b.size)
      (names_of_lem (length b.bytes) _ _ (inner_filled b.document limit) (rw (length-take, length-drop) (omega arith))
      ∙ sym (names_read _ _ _ b.document limit) ∙ ap top b.named)

  -- and a text that is not found in it
  body_apart : (text : List ℕ) → (found (body_elements xs qs) text ≡ false) ↔ (¬ Leads names text)
  body_apart text =
      let p = rw b.named at (names_lead _ _ _ b.document limit text) in
      rw b.content (λ f l. not_both f (p.0 l), λ n. not_true _ (λ h. n (p.1 h)))

  -- checks 23 and 24
  pub differ_is : Passed.Differ xs qs
      ↔ (Differ (texts (Read.identifiers xs qs) ++ top names) × ((text : List ℕ) → text among texts (Read.identifiers xs qs) → ¬ Leads names text))
  differ_is = (to, back)
    where
      ids : List Read.Name
      ids = Read.identifiers xs qs

      to : Passed.Differ xs qs → Differ (texts ids ++ top names) × ((text : List ℕ) → text among texts ids → ¬ Leads names text)
      to h =
          let first = (differ_names (body_names xs qs)).0 h.names in
          let c = (differ_all (found (body_elements xs qs)) (texts (body_names xs qs)) ids first).0 h.all in
          (rw body_names_lem at c.0, λ text m. (body_apart text).0 (c.1 text m))

      back : Differ (texts ids ++ top names) × ((text : List ℕ) → text among texts ids → ¬ Leads names text) → Passed.Differ xs qs
      back h =
          let first : Differ (texts (body_names xs qs)) = rw body_names_lem (differ_behind (texts ids) h.0) in
          record {
            names = (differ_names (body_names xs qs)).1 first;
            all = (differ_all (found (body_elements xs qs)) (texts (body_names xs qs)) ids first).1 (rw body_names_lem h.0, λ text m. (body_apart text).1 (h.1 text m));
          }

-- ---- what is accepted is a message

same_view : (e : Edition) (s : List ℕ) (p : Parts) {size n : ℕ} {qs : List Shown.Section} → message_length s ≡ size → p.sections ≡ qs → p.elements ≡ n
    → view_of e s p ≡ record {
      length = size;
      request_id = signed (word_at 4 s);
      response_to = signed (word_at 8 s);
      flags = kept e.bits (flag_word s);
      entries = padded qs;
      elements = n;
    }
unfolding view_of
same_view e s p i j k = rw (i, j, k)

same_differ : {xs ys : List ℕ} {qs rs : List Shown.Section} → xs ≡ ys → qs ≡ rs → Passed.Differ xs qs → Passed.Differ ys rs
same_differ i j d = rw (i, j) at d

module _ (e : Edition) (s : List ℕ) (v : View) (b : Bytes s) (h : read e s ≡ ok v) where
  -- its sections
  sections_read : SectionsAre e 20 (section_bytes s) nothing (reads h).sections
  unfolding parts section_bytes
  sections_read =
      sections_are e (sections_end s) 20 (section_bytes s) nothing (reads h).sections
      (bytes_take (sections_end s - 20) (drop 20 s) (bytes_drop 20 s b)) (rw length-take (omega arith)) (reads h).listed

  module _ (a : SectionsAre e 20 (section_bytes s) nothing (reads h).sections) where
    tiles : Tiled e s [] (section_bytes s) nothing (reads h).sections
    tiles = all_tiled e s v b h

    one_body : (names : Names) × (bodies a.tree ≡ names ∷ [])
    one_body =
        let start : 0 < (body_of (reads h).sections.sections).start = omega (arith, eqb-false (body_of (reads h).sections.sections).start 0 (reads h).body) in
        bodies_one 20 a.tree (rw (sym tiles.behind ∙ a.added) at (tiles.single tt)) (rw a.added at start)

    few : length (identifiers a.tree) ≤ max_sequences
    unfolding sequences_of
    few =
        let room : length (sequences_of (reads h).sections.sections) ≤ max_sequences = tiles.room (omega arith) in
        let all : length (sequences_of (listed 20 a.tree)) ≤ max_sequences = rw a.added at room in
        omega (arith, listed_sequences 20 a.tree)

    limited : a.held ≤ max_elements
    limited = omega (arith, a.counted, tiles.limited)

    module _ (names : Names) (one : bodies a.tree ≡ names ∷ []) where
      named : Differ (identifiers a.tree ++ top names) × ((text : List ℕ) → text among identifiers a.tree → ¬ Leads names text)
      named =
          let d = same_differ (sym a.same) a.added (reads h).differ in
          rw (listed_identifiers [] a.tree) at ((differ_is a.bytes a.held (listed 20 a.tree) names (body_is [] a.tree names [] one) limited).0 d)

      is_message : Message e (take (message_length s) s) v
      unfolding view_of
      is_message =
          let k = (reads h).sound in
          let whole = length-take-le (message_length s) s k.whole in
          record {
            request_id = word_at 4 s;
            response_to = word_at 8 s;
            flags = flag_word s;
            sections = a.bytes;
            elements = a.held;
            tree = a.tree;
            body = names;
            words = (word_at_lt 4 s b, word_at_lt 8 s b, word_at_lt 16 s b);
            bytes = sym (form _ _ _ _ _ ∙ rw (whole, a.same) (read_form e s v h b));
            limit = rw whole k.limit;
            known = λ i l. known_bits 16 (flag_word s) e.bits (all_known_known 16 e.bits (flag_word s) (reads h).bits) i (omega arith);
            single = one;
            few = omega (arith, few);
            limited = limited;
            differ = named.0;
            apart = named.1;
            shows = sym (reads h).view ∙ same_view e s (reads h).sections (sym whole) a.added (a.counted ∙ zero-add a.held);
          }

-- ---- a message is accepted, whatever follows it

module _ (e : Edition) (m : List ℕ) (v : View) (g : Message e m v) where
  size_counts : whole_length g.flags g.sections ≡ length m
  size_counts = sym (made_whole (length m) g.request_id g.response_to g.flags g.sections) ∙ ap length (sym (g.bytes ∙ form _ _ _ _ _))

  abbrev whole : List ℕ
  whole = message (header_of (length m) g.request_id g.response_to) g.flags g.sections

  words : (message_length whole ≡ length m) × (word_at 4 whole ≡ g.request_id) × (word_at 8 whole ≡ g.response_to)
  words = made_words (length m) g.request_id g.response_to g.flags g.sections g.words.0 g.words.1 g.words.2 g.limit size_counts

  seen : Seen whole g.flags g.sections
  seen = made_seen (length m) g.request_id g.response_to g.flags g.sections g.words.0 g.words.1 g.words.2 g.limit size_counts

  abbrev listing : Parts
  listing = record { sections = listed 20 g.tree; elements = g.elements }

  the_body : BodyIs [] g.sections g.elements (listed 20 g.tree) g.body
  the_body = body_is [] g.tree g.body [] g.single

  sections_listed : parts e whole ≡ ok listing
  unfolding parts sequences_of body_of whole_length
  sections_listed =
      let z = zero-add g.elements in
      let room = listed_sequences 20 g.tree in
      let small : length g.sections < 2 ^ 31 = omega (arith, size_counts, g.limit, max_length_small) in
      rw (seen.sections, seen.end) (rw z at (sections_complete g.tree (20 + length g.sections) 20 nothing (omega arith) small
      (before_body refl (one_listed 20 g.tree g.body g.single)) (omega (arith, g.few)) (omega (arith, g.limited))))

  names_differ : Passed.Differ (section_bytes whole) (listed 20 g.tree)
  names_differ =
      rw seen.sections ((differ_is g.sections g.elements (listed 20 g.tree) g.body the_body g.limited).1 (rw (listed_identifiers [] g.tree) (g.differ, g.apart)))

  whole_read : read e whole ≡ ok v
  unfolding view_of
  whole_read =
      let bits = known_all_known 16 e.bits g.flags (bits_known 16 g.flags e.bits (λ i l. g.known i (omega arith))) in
      accepted e whole seen.sound (rw seen.flags bits) listing sections_listed (ne_eqb (body_of (listed 20 g.tree)).start 0 (λ z. omega (arith, the_body.start))) names_differ
      ∙ ap ok (rw (words.0, words.1, words.2, seen.flags) (sym g.shows))

  pub message_read : (rest : List ℕ) → read e (m ++ rest) ≡ ok v
  message_read rest =
      ap (λ (l : List ℕ). read e (l ++ rest)) (g.bytes ∙ form _ _ _ _ _)
      ∙ made_front (length m) g.request_id g.response_to g.flags g.sections g.words.0 g.words.1 g.words.2 g.limit size_counts e rest
      ∙ whole_read

  pub shown_length : v.length ≡ length m
  shown_length = ap (λ (w : View). w.length) g.shows

-- ---- both

read_message : (e : Edition) (s : List ℕ) (v : View) → Bytes s → read e s ≡ ok v → Message e (take v.length s) v
unfolding view_of
read_message e s v b h =
    let a = sections_read e s v b h in
    let o = one_body e s v b h a in
    let size : message_length s ≡ v.length = ap (λ (w : View). w.length) (reads h).view in
    rw size at (is_message e s v b h a o.0 o.1)

begins_accepted : (e : Edition) (s : List ℕ) → Begins e s → Accepts e s
begins_accepted e s g = (g.view, rw g.joined (message_read e g.message g.view g.is g.rest))

one_message : (e : Edition) (m n a b : List ℕ) (v w : View) → Message e m v → Message e n w → m ++ a ≡ n ++ b → (m ≡ n) × (v ≡ w)
one_message e m n a b v w g k same =
    let views : v ≡ w = ok_same (sym (message_read e m v g a) ∙ ap (read e) same ∙ message_read e n w k b) in
    let sizes : length m ≡ length n = sym (shown_length e m v g) ∙ ap (λ (u : View). u.length) views ∙ shown_length e n w k in
    (sym (take_at m a (length m) refl) ∙ rw (same, sizes) (take_at n b (length n) refl), views)

pub reads_messages : ReadsMessages
reads_messages = record {
  accepts = λ e s b. (
    λ (v, h).
        record { message = take v.length s; rest = drop v.length s; view = v; joined = sym (take-append-drop v.length s); is = read_message e s v b h },
    begins_accepted e s,
  );
  shows = λ e s v b. (
    read_message e s v b,
    λ g. rw take-append-drop at (message_read e (take v.length s) v g (drop v.length s)),
  );
  unambiguous = one_message;
}
