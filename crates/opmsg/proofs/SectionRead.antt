-- A section that was read: what it is, how long it is, and that it is read so wherever its bytes stand.
-- Assumes nothing.
use Prim.Native.Nat.{ℕ, ◌+◌, ◌-◌, ◌^◌, ◌<◌, ◌≤◌}
use mathlib.Core.Bool.{Bool, true, false, not, ◌&&◌, ◌||◌}
use mathlib.Core.Path.{◌≡◌, refl, sym, ap, ◌∙◌}
use mathlib.Core.List.{List, [], ◌∷◌, ◌++◌}
use native.Mathlib.Omega.{arith}
use lib.ListN.{length, get_or, take, drop, length-drop}
use lib.Dec.{eqb}
use borrow.Author.Tests.{ltb-false, le-ltb, leb-false, eqb-true, eqb-false, not-false}
use Rattle.wire.specs.Outcome.{Outcome, ok, refuse, ◌>>=◌}
use Rattle.wire.specs.Bytes.{word, until_zero}
use Rattle.wire.specs.Walk.{Step, walk}
use Rattle.wire.proofs.Outcome.{passed, pass, bound}
use Rattle.wire.proofs.Bytes.{under_false}
use Rattle.wire.proofs.Agree.{Agree, agree_drop, agree_part, agree_byte, agree_word}
use Rattle.wire.proofs.Walk.{Steady, step_size, step_state}
use Rattle.bson.specs.Document.{document_at, max_levels}
use Rattle.bson.proofs.Frame.{document_framed}
use Rattle.bson.proofs.Steady.{document_steady}
use Rattle.utf8.specs.Utf8.{Utf8}
use Rattle.utf8.proofs.Checks.{check_text}
use Rattle.opmsg.specs.Flags.{knows}
use Rattle.opmsg.specs.Sections.{max_sequences, body_at, sequence_at, place_of, body_of, sequences_of, Parts, Run, next_document, body_section, sequence_run, sequence_named, sequence_section, section_of, section_at}
use Rattle.opmsg.specs.declared.Edition.{Edition}
use Rattle.opmsg.specs.declared.Section.{Section}
use Rattle.opmsg.specs.declared.Section.TheVariants.{None, Body, Sequence}

-- a body that is read
pub record BodyRead (at : ℕ) (xs : List ℕ) (p : Parts) (one : Step Parts) : Type 0 where
  pub document : Step ℕ
  pub first : (body_of p.sections).start ≡ 0
  pub read : document_at max_levels (at + 1) (drop 1 xs) p.elements ≡ ok document
  pub size : one.size ≡ 1 + document.size
  pub added : one.state.sections ≡ p.sections ++ (body_at at document.size ∷ [])
  pub counted : one.state.elements ≡ document.state

body_read : (at : ℕ) (xs : List ℕ) (p : Parts) (one : Step Parts) → body_section at xs p ≡ ok one → BodyRead at xs p one
unfolding body_section
body_read at xs p one h =
    let c = passed _ _ _ _ h in
    bound (document_at max_levels (at + 1) (drop 1 xs) p.elements) _ c.1 λ d e f.
    record {
      document = d;
      first = omega (arith, ltb-false 0 (body_of p.sections).start c.0);
      read = e;
      size = step_size f;
      added = ap (λ (q : Parts). q.sections) (step_state f);
      counted = ap (λ (q : Parts). q.elements) (step_state f);
    }

-- it goes by its own bytes alone
body_alike : (at : ℕ) (xs ys : List ℕ) (p : Parts) (d : Step ℕ) → document_at max_levels (at + 1) (drop 1 xs) p.elements ≡ ok d → Agree (1 + d.size) xs ys
    → body_section at ys p ≡ body_section at xs p
unfolding body_section
body_alike at xs ys p d h a = rw (h, (document_steady max_levels).alike (at + 1) (drop 1 xs) (drop 1 ys) p.elements d h (agree_drop 1 a))

-- the size that a sequence states, and the length of its identifier; xs begins with the kind byte
abbrev pub stated : List ℕ → ℕ
stated xs = word (drop 1 xs)

abbrev pub name_length : List ℕ → ℕ
name_length xs = until_zero (take (stated xs - 4) (drop 5 xs))

-- how many bytes its documents take
abbrev pub documents_length : List ℕ → ℕ
documents_length xs = stated xs - (name_length xs + 5)

-- and so what it is, with its number of documents
abbrev pub sequence_in : ℕ → List ℕ → (number : ℕ) → Section
sequence_in at xs number = sequence_at at (name_length xs) (documents_length xs) number

-- its documents, at a place, with so many elements counted before them
abbrev pub run_of : ℕ → List ℕ → (count : ℕ) → Outcome Run
run_of at xs count = walk next_document (stated xs) (at + (name_length xs + 6)) (take (documents_length xs) (drop (name_length xs + 6) xs)) (record { documents = 0; elements = count })

-- a sequence that is read
pub record SequenceRead (at : ℕ) (xs : List ℕ) (p : Parts) (one : Step Parts) : Type 0 where
  pub room : length (sequences_of p.sections) < max_sequences
  pub least : 5 ≤ stated xs
  pub whole : 1 + stated xs ≤ length xs
  pub some : 0 < name_length xs
  pub ended : name_length xs < stated xs - 4
  pub text : Utf8 (take (name_length xs) (drop 5 xs))
  pub run : Run
  pub walked : run_of at xs p.elements ≡ ok run
  pub small : stated xs < 2 ^ 31
  pub size : one.size ≡ 1 + stated xs
  pub added : one.state.sections ≡ p.sections ++ (sequence_in at xs run.documents ∷ [])
  pub counted : one.state.elements ≡ run.elements

sequence_read : (at : ℕ) (xs : List ℕ) (p : Parts) (one : Step Parts) → sequence_section at xs p ≡ ok one → SequenceRead at xs p one
unfolding sequence_section sequence_named sequence_run
sequence_read at xs p one h =
    let c1 = passed _ _ _ _ h in
    let c2 = passed _ _ _ _ c1.1 in
    let c3 = passed _ _ _ _ c2.1 in
    let c4 = passed _ _ _ _ c3.1 in
    let c5 = passed _ _ _ _ c4.1 in
    let c6 = passed _ _ _ _ c5.1 in
    let c7 = (check_text _ one (at + 5) (take (name_length xs) (drop 5 xs))).0 c6.1 in
    let empty = eqb-false (name_length xs) 0 c5.0 in
    bound (walk next_document _ _ _ _) _ c7.1 λ run e f.
    record {
      room = leb-false max_sequences (length (sequences_of p.sections)) c1.0;
      least = (under_false 5 (stated xs) c3.0).0;
      whole = ltb-false (length xs) (1 + stated xs) c4.0;
      some = omega (arith, empty);
      ended = leb-false (stated xs - 4) (name_length xs) c6.0;
      text = c7.0;
      run = run;
      walked = e;
      small = (under_false 5 (stated xs) c3.0).1;
      size = step_size f;
      added = ap (λ (q : Parts). q.sections) (step_state f);
      counted = ap (λ (q : Parts). q.elements) (step_state f);
    }

-- it goes by its own bytes alone
sequence_alike : (at : ℕ) (xs ys : List ℕ) (p : Parts) → 5 ≤ stated xs → name_length xs < stated xs - 4 → Agree (1 + stated xs) xs ys → sequence_section at ys p ≡ sequence_section at xs p
unfolding sequence_section sequence_named sequence_run
sequence_alike at xs ys p l m a =
    let n = stated xs in
    let w : word (drop 1 ys) ≡ n = agree_word (agree_drop 1 a) (omega arith) in
    rw (
      le-ltb (length ys) 5 (omega (arith, a.second)),
      w,
      le-ltb (length ys) (1 + n) a.second,
      agree_part (n - 4) 5 a (omega arith),
      agree_part (name_length xs) 5 a (omega arith),
      agree_part (n - (name_length xs + 5)) (name_length xs + 6) a (omega arith),
      le-ltb (length xs) 5 (omega (arith, a.first)),
      le-ltb (length xs) (1 + n) a.first,
    )

-- a section that is read is one of the two
pub data SectionRead (e : Edition) (at : ℕ) (xs : List ℕ) (p : Parts) (one : Step Parts) : Type 0 where
  a_body : get_or xs 0 0 ≡ 0 → BodyRead at xs p one → SectionRead e at xs p one
  a_sequence : get_or xs 0 0 ≡ 1 → knows e 1 ≡ true → SequenceRead at xs p one → SectionRead e at xs p one

section_cases : (e : Edition) (kind at : ℕ) (xs : List ℕ) (p : Parts) (one : Step Parts) → get_or xs 0 0 ≡ kind → knows e kind ≡ true → section_of kind at xs p ≡ ok one
    → SectionRead e at xs p one
unfolding section_of knows
section_cases e kind at xs p one i k h = go (eqb kind 0) (eqb kind 1) e.sequences refl refl refl k h
  where
    go : (a b c : Bool) → eqb kind 0 ≡ a → eqb kind 1 ≡ b → e.sequences ≡ c → a || b && c ≡ true
        → elim a [ true ↦ body_section at xs p | false ↦ sequence_section at xs p ] ≡ ok one → SectionRead e at xs p one
    go true b c x y z k h = a_body (i ∙ eqb-true kind 0 x) (body_read at xs p one h)
    go false true true x y z k h = a_sequence (i ∙ eqb-true kind 1 y) z (sequence_read at xs p one h)
    go false true false x y z k h = let z : ◌≡◌ {A = ℕ} 0 1 = cc in absurd (omega arith)
    go false false c x y z k h = let z : ◌≡◌ {A = ℕ} 0 1 = cc in absurd (omega arith)

module _ (e : Edition) (at : ℕ) (xs : List ℕ) (p : Parts) (one : Step Parts) (h : section_at e at xs p ≡ ok one) where
  pub section_known : (knows e (get_or xs 0 0) ≡ true) × (section_of (get_or xs 0 0) at xs p ≡ ok one)
  unfolding section_at
  section_known = let c = passed _ _ _ _ h in (not-false _ c.0, c.1)

  pub section_read : SectionRead e at xs p one
  section_read = section_cases e (get_or xs 0 0) at xs p one refl section_known.0 section_known.1

  -- whether another edition reads it goes by its kind
  pub section_other : (other : Edition) → section_at other at xs p ≡ (refuse 10 at (not (knows other (get_or xs 0 0))) >>= λ _. ok one)
  unfolding section_at
  section_other other = rw section_known.1

-- the kind of a section; what says none has none
unfoldable pub kind_of : Section → ℕ
kind_of None = 0
kind_of (Body range) = 0
kind_of (Sequence identifier documents number) = 1

-- it stands behind those before it, at its place and with its kind
pub record Added (at k : ℕ) (before after : List Section) : Type 0 where
  pub section : Section
  pub place : place_of section ≡ at
  pub kind : kind_of section ≡ k
  pub behind : after ≡ before ++ (section ∷ [])

pub section_added : {e : Edition} {at : ℕ} {xs : List ℕ} {p : Parts} {one : Step Parts} → SectionRead e at xs p one → Added at (get_or xs 0 0) p.sections one.state.sections
unfolding place_of kind_of
section_added {at = at} (a_body k r) = record { section = body_at at r.document.size; place = omega arith; kind = sym k; behind = r.added }
section_added {at = at} {xs = xs} (a_sequence k known r) = record { section = sequence_in at xs r.run.documents; place = omega arith; kind = sym k; behind = r.added }

-- how many bytes it takes
section_size_lem : {e : Edition} {at : ℕ} {xs : List ℕ} {p : Parts} {one : Step Parts} → SectionRead e at xs p one → (5 < one.size) × (one.size ≤ length xs)
section_size_lem {at = at} {xs = xs} {p = p} (a_body k r) =
    let f = document_framed max_levels (at + 1) (drop 1 xs) p.elements r.document r.read in
    (omega (arith, r.size, f.low), omega (arith, r.size, f.low, f.fits, length-drop 1 xs))
section_size_lem (a_sequence k known r) = (omega (arith, r.size, r.least), omega (arith, r.size, r.whole))

section_alike : {e : Edition} {at : ℕ} {xs : List ℕ} {p : Parts} {one : Step Parts} → SectionRead e at xs p one → (ys : List ℕ) → Agree one.size xs ys
    → section_of (get_or xs 0 0) at ys p ≡ section_of (get_or xs 0 0) at xs p
unfolding section_of
section_alike {at = at} {xs = xs} {p = p} (a_body k r) ys a = rw (section_of, k) (body_alike at xs ys p r.document r.read (rw r.size at a))
section_alike {at = at} {xs = xs} {p = p} (a_sequence k known r) ys a = rw (section_of, k) (sequence_alike at xs ys p r.least r.ended (rw r.size at a))

pub section_steady : (e : Edition) → Steady (section_at e)
unfolding section_at
section_steady e = record {
  advances = λ at xs p one h. omega (arith, section_size_lem (section_read e at xs p one h));
  fits = λ at xs p one h. (section_size_lem (section_read e at xs p one h)).1;
  alike = λ at xs ys p one h a.
      let r = section_read e at xs p one h in
      let kind : get_or ys 0 0 ≡ get_or xs 0 0 = agree_byte 0 a (omega (arith, (section_size_lem r).0)) in
      rw kind (pass 10 at _ (ap not (section_known e at xs p one h).0) ∙ section_alike r ys a ∙ (section_known e at xs p one h).1);
}
