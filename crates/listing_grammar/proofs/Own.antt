-- Whatever the program lists is a listing of version 2.
-- Assumes nothing.
use Prim.Native.Nat.{ℕ, zero, suc, ◌+◌, ◌-◌, ◌^◌, ◌≤◌, ◌<◌}
use mathlib.Core.Bool.{Bool, true, false, ◌&&◌, and-false}
use mathlib.Core.Path.{◌≡◌, refl, ap, ◌∙◌, subst}
use mathlib.Core.List.Memᴰ
use mathlib.Core.List.{List, [], ◌∷◌}
use native.Mathlib.Omega.{arith}
use lib.ListN.{length, drop, length-take, length-drop}
use lib.Dec.{eqb, ltb, leb}
use borrow.Author.Tests.{ltb-true, ltb-false, leb-true, leb-false, eqb-false}
use Rattle.wire.specs.Outcome.{Outcome, ok, refused}
use Rattle.wire.specs.Bytes.{Bytes, word_at, signed}
use Rattle.wire.proofs.Bytes.{bytes_drop, word_at_lt}
use Rattle.wire.proofs.Meets.{missed}
use Rattle.bson_elements.specs.Element.{max_elements}
use Rattle.bson.proofs.Bounds.{Fault}
use Rattle.opmsg.specs.Flags.{house}
use Rattle.opmsg.specs.Layout.{max_length, message_length, flag_word, sections_end, section_bytes}
use Rattle.opmsg.specs.Sections.{max_sequences, body_of, sequences_of}
use Rattle.opmsg.specs.View.{view_of}
use Rattle.opmsg.specs.Read.{read}
use Rattle.opmsg.specs.declared.Edition.{Edition}
use Rattle.opmsg.specs.declared.Section.{Section}
use Rattle.opmsg.specs.declared.View.{View}
use Rattle.opmsg.proofs.Accepted.{reads}
use Rattle.opmsg.proofs.Bits.{kept_lt}
use Rattle.opmsg.proofs.Bounds.{most, read_bounded}
use Rattle.opmsg.proofs.Shown.{view_count}
use Rattle.message.proofs.Tiles.{Chunks, no_chunk, chunk_and, all_tiled}
use Rattle.listing.specs.Next.{buffer_length, summary_of, long, step_of, judge, next}
use Rattle.listing.specs.Listing.{Entry, entries_of, entries, messages_of, listing}
use Rattle.listing.specs.declared.Step.{Step}
use Rattle.listing.specs.declared.Step.TheVariants.{Message, Big, Bad, More, End}
use Rattle.listing_stored.specs.Version.{versions}
use Rattle.listing_stored.specs.Stored.{read_listing}
use Rattle.listing_stored.proofs.Versions.{two}
use Rattle.listing_grammar.specs.Grammar.{Signed32, Allowed, Entries, Listing}
use Rattle.listing_grammar.proofs.Accepted.{is_accepted}

-- ---- a message that is read

signed_fits : (w : ℕ) → w < 2 ^ 32 → Signed32 (signed w)
unfolding signed
signed_fits w h = go (ltb w (2 ^ 31)) refl
  where
    go : (b : Bool) → ltb w (2 ^ 31) ≡ b → Signed32 (signed w)
    go true e = rw (signed, e) (ltb-true w (2 ^ 31) e)
    go false e = rw (signed, e) (omega (arith, ltb-false w (2 ^ 31) e))

-- sections with a body among them take 6 bytes or more
some_bytes : {e : Edition} {s : List ℕ} {qs : List Section} {held size : ℕ} → Chunks e s qs held size → ¬ ((body_of qs).start ≡ 0) → 6 ≤ size
unfolding body_of
some_bytes no_chunk n = absurd (n refl)
some_bytes (chunk_and c placed r) n = omega (arith, c.some)

module _ (s : List ℕ) (b : Bytes s) (v : View) (h : read house s ≡ ok v) where
  -- it has 26 bytes or more
  least : 26 ≤ message_length s
  unfolding section_bytes sections_end
  least =
      let d = all_tiled house s v b h in
      let some = some_bytes d.chunks (λ z. eqb-false _ _ (reads h).body (ap (λ (qs : List Section). (body_of qs).start) d.behind ∙ z)) in
      omega (arith, some, length-take (sections_end s - 20) (drop 20 s), (reads h).sound.least)

  -- where the program can hold it, what is told of it is what version 2 allows
  allowed : message_length s ≤ buffer_length → Allowed two (summary_of v) × (v.length ≤ length s)
  unfolding view_of max_elements max_sequences sequences_of buffer_length
  allowed held =
      let d = all_tiled house s v b h in
      subst (λ (v : View). Allowed two (summary_of v) × (v.length ≤ length s)) (reads h).view (
        record {
          least = least;
          most = held;
          request = signed_fits (word_at 4 s) (word_at_lt 4 s b);
          response = signed_fits (word_at 8 s) (word_at_lt 8 s b);
          flags = omega (arith, kept_lt house.bits (flag_word s));
          sequences = rw (view_count house s (reads h).sections) (d.room (omega arith));
          elements = omega (arith, d.limited);
        },
        (reads h).sound.whole,
      )

-- ---- what comes next

-- what a step tells of the n bytes at hand
abbrev Fact : ℕ → Step → Type 0
Fact n (Message m) = Allowed two m × (m.length ≤ n)
Fact n (Big size) = (buffer_length < size) × (size ≤ max_length)
Fact n (Bad number place) = Fault most number place
Fact n More = Unit {0}
Fact n End = Unit {0}

module _ (s : List ℕ) (b : Bytes s) where
  read_fact : ((v : View) → read house s ≡ ok v → message_length s ≤ buffer_length) → (o : Outcome View) → read house s ≡ o → Fact (length s) (step_of o)
  unfolding step_of
  read_fact held (ok v) h = allowed s b v h (held v h)
  read_fact held (refused number place) h = missed (read_bounded house s) h

  judge_fact : Fact (length s) (judge s)
  unfolding judge long
  judge_fact = go (leb 16 (length s)) refl (leb (message_length s) max_length) refl (ltb buffer_length (message_length s)) refl
    where
      go : (a : Bool) → leb 16 (length s) ≡ a → (b : Bool) → leb (message_length s) max_length ≡ b → (c : Bool) → ltb buffer_length (message_length s) ≡ c
          → Fact (length s) (elim (a && b && c) [ true ↦ Big (message_length s) | false ↦ step_of (read house s) ])
      go true i true j true k = (ltb-true buffer_length (message_length s) k, leb-true (message_length s) max_length j)
      go false i b j true k = read_fact (λ v h. absurd (omega (arith, leb-false 16 (length s) i, (reads h).sound.least, (reads h).sound.whole))) (read house s) refl
      go true i false j true k = read_fact (λ v h. absurd (omega (arith, leb-false (message_length s) max_length j, (reads h).sound.limit))) (read house s) refl
      go a i b j false k = rw (and-false (a && b)) (read_fact (λ v h. ltb-false buffer_length (message_length s) k) (read house s) refl)

  next_fact : Fact (length s) (next true s)
  unfolding next
  next_fact = go (eqb (length s) 0)
    where
      go : (c : Bool) → Fact (length s) (elim c [ true ↦ End | false ↦ judge s ])
      go true = tt
      go false = judge_fact

-- ---- the entries

-- at most so many messages are told of as there are bytes
record Listed (o n : ℕ) (es : List Entry) : Type 0 where
  are : Entries two o es
  count : messages_of es ≤ n

entries_listed : (turns o : ℕ) (s : List ℕ) → Bytes s → o + length s < 2 ^ 64 → Listed o (length s) (entries_of turns s)
unfolding entries_of messages_of max_length buffer_length
entries_listed zero o s b l = record { are = Entries.none; count = omega arith }
entries_listed (suc turns) o s b l = go (next true s) (next_fact s b) (λ n m. entries_listed turns (o + n) (drop n s) (bytes_drop n s b) (omega (arith, length-drop n s)))
  where
    go : (step : Step) → Fact (length s) step → ((n : ℕ) → n ≤ length s → Listed (o + n) (length (drop n s)) (entries_of turns (drop n s)))
        → Listed o (length s) (elim step [
          | Message m ↦ Entry.message m ∷ entries_of turns (drop m.length s)
          | Big n ↦ elim (ltb (length s) n) [ true ↦ Entry.bad 3 0 ∷ [] | false ↦ Entry.big n ∷ entries_of turns (drop n s) ]
          | Bad number place ↦ Entry.bad number place ∷ []
          | More ↦ []
          | End ↦ []
        ])
    go (Message m) f ih =
        let r = ih m.length f.1 in
        record { are = Entries.message {offset = o} (omega arith) f.0 r.are; count = omega (arith, r.count, f.1, f.0.least, length-drop m.length s) }
    go (Big n) f ih = passed_over (ltb (length s) n) refl
      where
        passed_over : (c : Bool) → ltb (length s) n ≡ c → Listed o (length s) (elim c [ true ↦ Entry.bad 3 0 ∷ [] | false ↦ Entry.big n ∷ entries_of turns (drop n s) ])
        passed_over true e = record { are = Entries.bad {offset = o} {number = 3} {place = 0} (omega arith) (omega arith) (omega arith); count = omega arith }
        passed_over false e =
            let fits = ltb-false (length s) n e in
            let r = ih n fits in
            record { are = Entries.big {offset = o} {size = n} (omega arith) refl (omega (arith, f.0)) (omega (arith, f.1)) r.are; count = omega (arith, r.count, f.0, length-drop n s) }
    go (Bad number place) f ih = record { are = Entries.bad {offset = o} {number = number} {place = place} (omega arith) (omega (arith, f.1)) (omega (arith, f.3)); count = omega arith }
    go More f ih = record { are = Entries.none; count = omega arith }
    go End f ih = record { are = Entries.none; count = omega arith }

pub own_listing : (s : List ℕ) → Bytes s → length s < 2 ^ 64 → Listing 2 (messages_of (entries s)) (listing s)
unfolding entries listing versions
own_listing s b l =
    let r = entries_listed (suc (length s)) 0 s b (omega arith) in
    Listing.listing {v = two} (Memᴰ.tail (Memᴰ.head refl)) r.are (omega (arith, r.count))

pub own : (s : List ℕ) → Bytes s → length s < 2 ^ 64 → read_listing (listing s) ≡ ok (record { version = 2; messages = messages_of (entries s) })
own s b l = is_accepted (own_listing s b l)
