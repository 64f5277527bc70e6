-- A section that was read is read wherever its bytes stand, and whatever was counted before it, within the limits.
-- Assumes nothing.
use Prim.Native.Nat.{ℕ, zero, suc, ◌+◌, ◌-◌, ◌<◌, ◌≤◌, max}
use mathlib.Core.Bool.{false, not}
use mathlib.Core.Path.{◌≡◌, refl, sym, ap, ◌∙◌}
use mathlib.Core.List.{List, [], ◌∷◌, ◌++◌}
use native.Mathlib.Omega.{arith}
use lib.ListN.{length, get_or, take, drop, length-append, length-drop}
use lib.Seq.{take-append-le, take-take, length-take-le}
use borrow.Author.Tests.{le-ltb, lt-leb, ne_eqb}
use Rattle.wire.specs.Outcome.{ok}
use Rattle.wire.specs.Bytes.{Bytes}
use Rattle.wire.specs.Walk.{Step, step, walk}
use Rattle.wire.proofs.Outcome.{ok_same, pass, bound, go_on}
use Rattle.wire.proofs.Bytes.{bytes_drop, bytes_take, not_under}
use Rattle.wire.proofs.Walk.{walk_step}
use Rattle.utf8.proofs.Longest.{text_is_utf8}
use Rattle.bson_elements.specs.Element.{max_elements}
use Rattle.bson.specs.Document.{document_at, max_levels}
use Rattle.bson.proofs.Frame.{document_framed}
use Rattle.bson_grammar.proofs.Grammar.{agree, sound}
use Rattle.opmsg.specs.Flags.{knows}
use Rattle.opmsg.specs.Sections.{max_sequences, body_at, place_of, section_size, body_of, sequences_of, Parts, Run, next_document, body_section, sequence_run, sequence_named, sequence_section, section_of, section_at}
use Rattle.opmsg.proofs.SectionRead.{stated, name_length, documents_length, sequence_in, BodyRead, SequenceRead, SectionRead, a_body, a_sequence, section_known, section_read, section_steady}
use Rattle.message.specs.Moving.{placed}
use Rattle.opmsg.specs.declared.Edition.{Edition}
use Rattle.opmsg.specs.declared.Section.{Section}
use Rattle.opmsg.specs.declared.Section.TheVariants.{None, Body, Sequence}

-- a document
record DocumentMoved (xs : List ℕ) (count : ℕ) (d : Step ℕ) : Type 0 where
  held : ℕ
  counted : d.state ≡ count + held
  limited : d.state ≤ max count max_elements
  anywhere : (at c : ℕ) → c + held ≤ max_elements → document_at max_levels at xs c ≡ step d.size (c + held)

document_moved : (at : ℕ) (xs : List ℕ) (count : ℕ) (d : Step ℕ) → Bytes xs → document_at max_levels at xs count ≡ ok d → DocumentMoved xs count d
document_moved at xs count d b h =
    let r = sound at xs count d b h in
    record {
      held = r.held;
      counted = r.counted;
      limited = r.limited;
      anywhere = λ a c l. (agree max_levels a xs c (record { size = d.size; state = c + r.held }) b).1 (record { fits = r.fits; held = r.held; is = r.is; counted = refl; limited = omega arith });
    }

-- documents back to back
record RunMoved (turns : ℕ) (xs : List ℕ) (r t : Run) : Type 0 where
  held : ℕ
  counted : t.elements ≡ r.elements + held
  limited : t.elements ≤ max r.elements max_elements
  anywhere : (at c : ℕ) → c + held ≤ max_elements
      → walk next_document turns at xs (record { documents = r.documents; elements = c }) ≡ ok (record { documents = t.documents; elements = c + held })

none_moved : (turns : ℕ) (xs : List ℕ) (r t : Run) → ((at : ℕ) (u : Run) → walk next_document turns at xs u ≡ ok u) → ok r ≡ ok t → RunMoved turns xs r t
none_moved turns xs r t done h =
    rw (← ok_same h) (record {
      held = 0;
      counted = omega arith;
      limited = omega arith;
      anywhere = λ at c l. let z : c + 0 ≡ c = omega arith in rw z (done at _);
    })

run_moved : (turns at : ℕ) (xs : List ℕ) (r t : Run) → Bytes xs → walk next_document turns at xs r ≡ ok t → RunMoved turns xs r t
unfolding walk next_document
run_moved zero at xs r t b h = none_moved zero xs r t (λ at u. refl) h
run_moved (suc turns) at [] r t b h = none_moved (suc turns) [] r t (λ at u. refl) h
run_moved (suc turns) at (x ∷ xs) r t b h =
    bound (next_document at (x ∷ xs) r) _ (sym (walk_step next_document turns at (x ∷ xs) r (omega arith)) ∙ h) λ one here rest.
    bound (document_at max_levels at (x ∷ xs) r.elements) _ here λ d ed fd.
    let m = document_moved at (x ∷ xs) r.elements d b ed in
    let n = run_moved turns (at + d.size) (drop d.size (x ∷ xs)) (record { documents = 1 + r.documents; elements = d.state }) t (bytes_drop d.size (x ∷ xs) b) (rw (← ok_same fd) at rest) in
    record {
      held = m.held + n.held;
      counted = omega (arith, m.counted, n.counted);
      limited = omega (arith, m.limited, n.limited);
      anywhere = λ a c l.
          let total : c + (m.held + n.held) ≡ c + m.held + n.held = omega arith in
          walk_step next_document turns a (x ∷ xs) _ (omega arith)
          ∙ go_on _ (go_on _ (m.anywhere a c (omega arith)))
          ∙ rw total (n.anywhere (a + d.size) (c + m.held) (omega arith));
    }

-- a section may come behind others
abbrev pub Allowed : Section → List Section → Type 0
Allowed None ps = ⊥
Allowed (Body range) ps = (body_of ps).start ≡ 0
Allowed (Sequence identifier documents number) ps = length (sequences_of ps) < max_sequences

-- what reading a section gives, at a place and behind others, where it holds so many elements
abbrev pub given : (q : Section) (held at : ℕ) → Parts → Step Parts
given q held at p = record { size = section_size q; state = record { sections = p.sections ++ (placed at q ∷ []); elements = p.elements + held } }

-- the bytes ws are a section q that holds so many elements, wherever they stand
pub record Chunk (e : Edition) (ws : List ℕ) (q : Section) (held : ℕ) : Type 0 where
  pub long : length ws ≡ section_size q
  pub some : 5 < section_size q
  pub reads : (at : ℕ) (rest : List ℕ) (p : Parts) → Allowed q p.sections → p.elements + held ≤ max_elements → section_at e at (ws ++ rest) p ≡ ok (given q held at p)

-- the section at the start of xs, which was read at a place
pub record Here (e : Edition) (at : ℕ) (xs : List ℕ) (p : Parts) (one : Step Parts) : Type 0 where
  pub section : Section
  pub held : ℕ
  pub size : one.size ≡ section_size section
  pub place : place_of section ≡ at
  pub stands : placed at section ≡ section
  pub added : one.state.sections ≡ p.sections ++ (section ∷ [])
  pub counted : one.state.elements ≡ p.elements + held
  pub limited : one.state.elements ≤ max p.elements max_elements
  pub allowed : Allowed section p.sections
  pub chunk : Chunk e (take one.size xs) section held

-- it goes by its own bytes
cut_out : (e : Edition) (xs : List ℕ) (n : ℕ) (q : Section) (held : ℕ) → n ≡ section_size q → n ≤ length xs → 5 < n
    → ((at : ℕ) (p : Parts) → Allowed q p.sections → p.elements + held ≤ max_elements → section_at e at xs p ≡ ok (given q held at p))
    → Chunk e (take n xs) q held
cut_out e xs n q held size fits some reads =
    let l = length-take-le n xs fits in
    record {
      long = l ∙ size;
      some = omega arith;
      reads = λ at rest p a m.
          (section_steady e).alike at xs (take n xs ++ rest) p (given q held at p) (reads at p a m)
          (record {
            first = omega arith;
            second = rw (length-append (take n xs) rest) (omega arith);
            same = rw (← size) (take-append-le n (take n xs) rest (omega arith) ∙ take-take n n xs (omega arith));
          });
    }

module _ (e : Edition) (at : ℕ) (xs : List ℕ) (p : Parts) (one : Step Parts) (b : Bytes xs) (h : section_at e at xs p ≡ ok one) where
  known : (k : ℕ) → get_or xs 0 0 ≡ k → not (knows e k) ≡ false
  known k i = ap not (ap (knows e) (sym i) ∙ (section_known e at xs p one h).0)

  body_here : get_or xs 0 0 ≡ 0 → BodyRead at xs p one → Here e at xs p one
  unfolding section_size place_of placed section_at section_of body_section
  body_here k r =
      let m = document_moved (at + 1) (drop 1 xs) p.elements r.document (bytes_drop 1 xs b) r.read in
      let f = document_framed max_levels (at + 1) (drop 1 xs) p.elements r.document r.read in
      let left = length-drop 1 xs in
      record {
        section = body_at at r.document.size;
        held = m.held;
        size = r.size;
        place = omega arith;
        stands = refl;
        added = r.added;
        counted = r.counted ∙ m.counted;
        limited = omega (arith, r.counted, m.limited);
        allowed = r.first;
        chunk = cut_out e xs one.size (body_at at r.document.size) m.held r.size (omega (arith, r.size, f.low, f.fits)) (omega (arith, r.size, f.low))
            (λ a q first l.
            pass 10 a _ (known _ refl)
            ∙ rw (section_of, k) (pass 11 a _ (le-ltb 0 (body_of q.sections).start (omega arith)) ∙ go_on _ (m.anywhere (a + 1) q.elements l)));
      }

  sequence_here : get_or xs 0 0 ≡ 1 → SequenceRead at xs p one → Here e at xs p one
  unfolding section_size place_of placed section_at section_of sequence_section sequence_named sequence_run
  sequence_here k r =
      let m = run_moved (stated xs) (at + (name_length xs + 6)) _ _ r.run (bytes_take (documents_length xs) (drop (name_length xs + 6) xs) (bytes_drop (name_length xs + 6) xs b)) r.walked in
      let size : one.size ≡ name_length xs + 6 + documents_length xs = omega (arith, r.size, r.ended) in
      record {
        section = sequence_in at xs r.run.documents;
        held = m.held;
        size = size;
        place = omega arith;
        stands = refl;
        added = r.added;
        counted = r.counted ∙ m.counted;
        limited = omega (arith, r.counted, m.limited);
        allowed = r.room;
        chunk = cut_out e xs one.size (sequence_in at xs r.run.documents) m.held size (omega (arith, r.size, r.whole)) (omega (arith, r.size, r.least))
            (λ a q room l.
            pass 10 a _ (known _ refl)
            ∙ rw (section_of, k) (pass 14 a _ (lt-leb max_sequences (length (sequences_of q.sections)) room)
            ∙ pass 12 (a + 1) _ (le-ltb (length xs) 5 (omega (arith, r.least, r.whole)))
            ∙ pass 12 (a + 1) _ (not_under 5 (stated xs) r.least r.small)
            ∙ pass 12 (a + 1) _ (le-ltb (length xs) (1 + stated xs) r.whole)
            ∙ pass 13 (a + 5) _ (ne_eqb (name_length xs) 0 (λ z. omega (arith, r.some)))
            ∙ pass 13 (a + 5) _ (lt-leb (stated xs - 4) (name_length xs) r.ended)
            ∙ go_on _ ((text_is_utf8.accepted (a + 5) _).1 r.text)
            ∙ go_on _ (m.anywhere (a + (name_length xs + 6)) q.elements l)
            ∙ ap (λ (n : ℕ). step n (record { sections = q.sections ++ (sequence_in a xs r.run.documents ∷ []); elements = q.elements + m.held })) (sym r.size ∙ size)));
      }

  go : SectionRead e at xs p one → Here e at xs p one
  go (a_body k r) = body_here k r
  go (a_sequence k known r) = sequence_here k r

  pub section_here : Here e at xs p one
  section_here = go (section_read e at xs p one h)
