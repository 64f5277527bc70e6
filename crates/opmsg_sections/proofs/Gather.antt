-- A turn of the code's loop over the sections: what it keeps of those passed is what the definition has of them.
-- Assumes nothing.
use Prim.Native.Nat.{ℕ, ◌+◌, ◌-◌, ◌≤◌, ◌<◌}
use mathlib.Core.Path.{◌≡◌, refl, sym, ap, ◌∙◌}
use mathlib.Core.List.{List, [], ◌∷◌, ◌++◌, append-nil}
use native.Mathlib.Omega.{arith}
use lib.ListN.{length, take, drop, set, length-append, length-take}
use lib.Seq.{drop-drop}
use Rattle.std.specs.Prelude.{Result, Ok, Err}
use Rattle.wire.specs.Outcome.{ok}
use Rattle.refusal.specs.declared.Refusal.{Refusal}
use Rattle.refusal.specs.Told.{told}
use Rattle.wire.specs.Walk.{Step, walk}
use Rattle.wire.proofs.Parts.{rest_part}
use Rattle.wire.proofs.Walk.{ends, goes_on, stops}
use Rattle.opmsg.specs.Sections.{max_sequences, max_sections, body_at, body_of, sequences_of, Parts, nothing, section_at}
use Rattle.opmsg.specs.Names.{part}
use Rattle.opmsg.specs.View.{padded}
use Rattle.opmsg.specs.Inner.{Filled, none, Shows}
use Rattle.opmsg_sequences.specs.Inner.{part_of, PartWithin, PassedNumbers}
use Rattle.opmsg.specs.declared.Edition.{Edition}
use Rattle.opmsg.specs.declared.Range.{Range}
use Rattle.opmsg.specs.declared.Section.{Section}
use Rattle.opmsg.specs.declared.Section.TheVariants.{Body, Sequence}
use Rattle.opmsg.specs.declared.Entry.{Entry}
use Rattle.opmsg_sequences.specs.declared.Part.{Part}
use Rattle.opmsg.proofs.SectionRead.{SectionRead, a_body, a_sequence, section_read}
use Rattle.opmsg.proofs.Shown.{padded_set, sequences_append, body_sequence, Started, started_append, body_behind}

-- ---- one section more

-- a body changes nothing of the sequences
pub sequences_stay : (qs : List Section) (range : Range) → sequences_of (qs ++ (Body range ∷ [])) ≡ sequences_of qs
unfolding sequences_of
sequences_stay qs range = sequences_append qs _ ∙ append-nil (sequences_of qs)

pub sequences_more : (qs : List Section) (i d : Range) (n : ℕ) → length (sequences_of (qs ++ (Sequence i d n ∷ []))) ≡ length (sequences_of qs) + 1
unfolding sequences_of
sequences_more qs i d n = ap length (sequences_append qs _) ∙ length-append (sequences_of qs) (Sequence i d n ∷ [])

not_both : (qs : List Section) (range i d : Range) (n : ℕ) → qs ++ (Sequence i d n ∷ []) ≡ qs ++ (Body range ∷ []) → ⊥
not_both qs range i d n h = omega (arith, sequences_more qs i d n, ap (λ (l : List Section). length (sequences_of l)) h, ap length (sequences_stay qs range))

-- a body is added only where there is none, and a sequence only where there is room
module _ {e : Edition} {at : ℕ} {xs : List ℕ} {p : Parts} {one : Step Parts} where
  first_body : SectionRead e at xs p one → (range : Range) → one.state.sections ≡ p.sections ++ (Body range ∷ []) → (body_of p.sections).start ≡ 0
  first_body (a_body k r) range h = r.first
  first_body (a_sequence k known r) range h = absurd (not_both p.sections _ _ _ _ (sym r.added ∙ h))

  room_left : SectionRead e at xs p one → (i d : Range) (n : ℕ) → one.state.sections ≡ p.sections ++ (Sequence i d n ∷ []) → length (sequences_of p.sections) < max_sequences
  room_left (a_body k r) i d n h = absurd (not_both p.sections _ _ _ _ (sym h ∙ r.added))
  room_left (a_sequence k known r) i d n h = r.room

-- ---- the loop

-- i bytes of xs are passed, and these numbers kept of them
pub record Passing (e : Edition) (xs : List ℕ) (i start size : ℕ) (entries : List Entry) (used number elements : ℕ) : Type 0 where
  pub parts : Parts
  pub turns : ℕ
  pub within : i ≤ length xs
  pub enough : length xs - i ≤ turns
  pub on : walk (section_at e) (length xs) 20 xs nothing ≡ walk (section_at e) turns (20 + i) (take (length xs - i) (drop i xs)) parts
  pub shows : Shows parts.sections start size entries used number
  pub elements_is : parts.elements ≡ elements
  pub few : number ≤ max_sequences
  pub one_body : used ≤ number + 1
  pub no_body : start ≡ 0 → used ≤ number
  pub near : start + size ≤ 20 + i
  pub filled : Filled (part xs (start + 4) (size - 5))
  pub started : Started parts.sections

pub begins : (e : Edition) (xs : List ℕ) → Passing e xs 0 0 0 (padded []) 0 0 0
unfolding body_of sequences_of part
begins e xs = record {
  parts = nothing;
  turns = length xs;
  within = omega arith;
  enough = omega arith;
  on = rw (rest_part 0 xs);
  shows = record { start_is = refl; size_is = refl; entries_is = refl; used_is = refl; sequences_is = refl };
  elements_is = refl;
  few = omega arith;
  one_body = omega arith;
  no_body = λ _. omega arith;
  near = omega arith;
  filled = none;
  started = tt;
}

module _ {e : Edition} {xs : List ℕ} {i start size : ℕ} {entries : List Entry} {used number elements : ℕ} (k : Passing e xs i start size entries used number elements) where
  -- at the end all is gathered
  pub gathered : length xs ≤ i → walk (section_at e) (length xs) 20 xs nothing ≡ ok k.parts
  gathered l = k.on ∙ ends (section_at e) 20 (length xs) i xs k.parts k.turns l

  -- before it a section is read
  module _ (more : i < length xs) (r : Result Part Refusal)
      (is : (p : Parts) → PassedNumbers p start number elements → part_of (20 + i) p r ≡ section_at e (20 + i) (take (length xs - i) (drop i xs)) p)
      (reaches : PartWithin (take (length xs - i) (drop i xs)) r) where
    answered : part_of (20 + i) k.parts r ≡ section_at e (20 + i) (take (length xs - i) (drop i xs)) k.parts
    answered = is k.parts (record { start_is = k.shows.start_is; number_is = k.shows.sequences_is; elements_is = k.elements_is })

    pub refuses : (f : Refusal) → r ≡ Err f → walk (section_at e) (length xs) 20 xs nothing ≡ told (Err f)
    refuses f h = k.on ∙ stops (section_at e) 20 (length xs) i xs k.parts more (omega arith) k.turns k.enough (sym answered ∙ ap (part_of (20 + i) k.parts) h)

    -- one entry more
    more_entries : (q : Section) → used < max_sections → padded (k.parts.sections ++ (q ∷ [])) ≡ set entries used (record { section = q })
    more_entries q room = sym (padded_set k.parts.sections q (rw k.shows.used_is room)) ∙ rw (k.shows.entries_is, k.shows.used_is)

    more_used : (q : Section) → length (k.parts.sections ++ (q ∷ [])) ≡ used + 1
    more_used q = length-append k.parts.sections (q ∷ []) ∙ ap (λ (m : ℕ). m + 1) k.shows.used_is

    -- a body
    module _ {n c : ℕ} (h : r ≡ Ok (Part.Body n c)) where
      body_read : section_at e (20 + i) (take (length xs - i) (drop i xs)) k.parts ≡ ok (record { size = 1 + n; state = record { sections = k.parts.sections ++ (body_at (20 + i) n ∷ []); elements = c } })
      body_read = sym answered ∙ ap (part_of (20 + i) k.parts) h

      none_yet : start ≡ 0
      none_yet = sym k.shows.start_is ∙ first_body (section_read e (20 + i) _ k.parts _ body_read) _ refl

      pub body_room : used < max_sections
      unfolding max_sections max_sequences
      body_room = omega (arith, k.no_body none_yet, k.few)

      pub adds_body : Passing e xs (i + (1 + n)) (20 + i + 1) n (set entries used (record { section = body_at (20 + i) n })) (used + 1) number c
      unfolding body_of part
      adds_body =
          let p = k.parts in
          let b = body_at (20 + i) n in
          let reach = rw h at reaches in
          let one = body_behind p.sections (b ∷ []) k.started (k.shows.start_is ∙ none_yet) in
          let place : 20 + i + 1 + 4 - 20 ≡ i + 5 = omega arith in
          record {
            parts = record { sections = p.sections ++ (b ∷ []); elements = c };
            turns = k.turns - 1;
            within = omega (arith, reach.1, length-take (length xs - i) (drop i xs), k.within);
            enough = omega (arith, k.enough);
            on = k.on ∙ goes_on (section_at e) 20 (length xs) i xs p more (omega arith) k.turns k.enough (1 + n) _ body_read;
            shows = record {
              start_is = ap (λ (r : Range). r.start) one;
              size_is = ap (λ (r : Range). r.length) one;
              entries_is = more_entries b body_room;
              used_is = more_used b;
              sequences_is = ap length (sequences_stay p.sections _) ∙ k.shows.sequences_is;
            };
            elements_is = refl;
            few = k.few;
            one_body = omega (arith, k.no_body none_yet);
            no_body = λ z. absurd (omega (arith, z));
            near = omega arith;
            filled = rw place (rw (rest_part i xs, drop-drop 5 i xs) at reach.2);
            started = started_append p.sections (b ∷ []) k.started (omega arith, tt);
          }

    -- a sequence
    module _ {m n c : ℕ} {a d : Range} (h : r ≡ Ok (Part.Sequenced n c m a d)) where
      sequence_read : section_at e (20 + i) (take (length xs - i) (drop i xs)) k.parts ≡ ok (record { size = n; state = record { sections = k.parts.sections ++ (Sequence a d m ∷ []); elements = c } })
      sequence_read = sym answered ∙ ap (part_of (20 + i) k.parts) h

      few_yet : number < max_sequences
      few_yet = rw (← k.shows.sequences_is) (room_left (section_read e (20 + i) _ k.parts _ sequence_read) a d m refl)

      pub sequence_room : used < max_sections
      unfolding max_sections max_sequences
      sequence_room = omega (arith, k.one_body, few_yet)

      pub adds_sequence : Passing e xs (i + n) start size (set entries used (record { section = Sequence a d m })) (used + 1) (number + 1) c
      adds_sequence =
          let p = k.parts in
          let q = Sequence a d m in
          let reach = rw h at reaches in
          let same = body_sequence p.sections a d m in
          record {
            parts = record { sections = p.sections ++ (q ∷ []); elements = c };
            turns = k.turns - 1;
            within = omega (arith, reach.1, length-take (length xs - i) (drop i xs), k.within);
            enough = omega (arith, k.enough, reach.0);
            on = k.on ∙ goes_on (section_at e) 20 (length xs) i xs p more (omega arith) k.turns k.enough n _ sequence_read;
            shows = record {
              start_is = ap (λ (r : Range). r.start) same ∙ k.shows.start_is;
              size_is = ap (λ (r : Range). r.length) same ∙ k.shows.size_is;
              entries_is = more_entries q sequence_room;
              used_is = more_used q;
              sequences_is = sequences_more p.sections a d m ∙ ap (λ (m : ℕ). m + 1) k.shows.sequences_is;
            };
            elements_is = refl;
            few = omega (arith, few_yet);
            one_body = omega (arith, k.one_body);
            no_body = λ z. omega (arith, k.no_body z);
            near = omega (arith, k.near);
            filled = k.filled;
            started = started_append p.sections (q ∷ []) k.started tt;
          }

  -- no more entries than a view has
  pub fits : used ≤ max_sections
  unfolding max_sections max_sequences
  fits = omega (arith, k.one_body, k.few)
