-- The round trip: a message whose body comes first, written and appended to from what its view shows, is made again.
-- Assumes nothing.
use Prim.Native.Nat.{ℕ, zero, suc, ◌+◌, ◌-◌, ◌<◌, ◌≤◌}
use mathlib.Core.Bool.{true}
use mathlib.Core.Path.{◌≡◌, refl, sym, ap, ◌∙◌}
use mathlib.Core.List.{List, [], ◌∷◌, ◌++◌, append_assoc, append-nil}
use native.Mathlib.Omega.{arith}
use lib.ListN.{length, get_or, take, drop, replicate, length-append, length-take, length-drop, take-append-drop}
use lib.Seq.{take-add, take-suc, length-take-le}
use borrow.Author.Tests.{eqb-false}
use Rattle.wire.specs.Outcome.{ok}
use Rattle.wire.specs.Bytes.{Bytes, word_at, signed}
use Rattle.wire.specs.Walk.{Step, walk}
use Rattle.wire.proofs.Outcome.{ok_same, bound}
use Rattle.wire.proofs.Agree.{agree_word, agree_take}
use Rattle.wire.proofs.Walk.{walk_done, walk_step, walk_one, walk_append}
use Rattle.bson.specs.Document.{max_levels}
use Rattle.bson.proofs.Frame.{Framed, document_framed}
use Rattle.opmsg.specs.Flags.{knows}
use Rattle.opmsg.specs.Layout.{flag_word, sections_end, section_bytes}
use Rattle.opmsg.specs.Sections.{max_sections, body_at, body_of, Parts, nothing, section_at}
use Rattle.opmsg.specs.View.{view_of, sections_of}
use Rattle.opmsg.specs.Read.{parts, read}
use Rattle.opmsg.proofs.Accepted.{reads}
use Rattle.opmsg.proofs.Bits.{Known, bits_known}
use Rattle.opmsg.proofs.SectionRead.{name_length, documents_length, sequence_in, BodyRead, SequenceRead, SectionRead, a_body, a_sequence, section_read, section_steady}
use Rattle.opmsg.proofs.Differ.{NamesWithin, within_more, within_append, front_differ}
use Rattle.opmsg.proofs.Shown.{body_nones, body_before}
use Rattle.message.specs.Message.{output}
use Rattle.message.specs.Write.{write}
use Rattle.message.specs.Append.{sequence_bytes, append}
use Rattle.message.specs.Editions.{KnowsBits, Room}
use Rattle.message.specs.Moving.{sequences_before}
use Rattle.message.specs.RoundTrip.{BodyFirst, first_message, cut, appended_to, remade}
use Rattle.opmsg.specs.declared.Edition.{Edition}
use Rattle.opmsg.specs.declared.Section.{Section}
use Rattle.opmsg.specs.declared.Section.TheVariants.{None, Body, Sequence}
use Rattle.opmsg.specs.declared.View.{View}
use Rattle.message.proofs.Sequence.{name_of, documents_of, name_length_lem, name_whole, sequence_bytes_lem}
use Rattle.message.proofs.Answers.{walk_other, section_list}
use Rattle.message.proofs.Tiles.{left_part, left_bytes}
use Rattle.message.proofs.Remade.{made, flags_kept, made_read, append_made, write_made, whole_made}

-- a front ys of the sections' bytes with the body in it, walked through to p; zs is left
record Front (e : Edition) (s ys zs : List ℕ) (p : Parts) : Type 0 where
  joined : ys ++ zs ≡ section_bytes s
  walked : walk (section_at e) (length ys) 20 ys nothing ≡ ok p
  body : 0 < (body_of p.sections).start
  inside : ((body_of p.sections).start + 4 - 20) + ((body_of p.sections).length - 5) ≤ length ys
  names : NamesWithin (length ys) p.sections

-- the next section is a sequence, and is read
record Next (e : Edition) (ys zs : List ℕ) (p : Parts) (one : Step Parts) : Type 0 where
  here : section_at e (20 + length ys) zs p ≡ ok one
  kind : get_or zs 0 0 ≡ 1
  known : knows e 1 ≡ true
  read : SequenceRead (20 + length ys) zs p one

-- so it is behind the body
next_is : {e : Edition} {s ys zs : List ℕ} {p : Parts} {one : Step Parts} → Front e s ys zs p → section_at e (20 + length ys) zs p ≡ ok one
    → SectionRead e (20 + length ys) zs p one → Next e ys zs p one
next_is f here (a_body k r) = absurd (omega (arith, r.first, f.body))
next_is f here (a_sequence k c r) = record { here = here; kind = k; known = c; read = r }

-- the first section is a body, and is read
record First (e : Edition) (s zs : List ℕ) (one : Step Parts) : Type 0 where
  joined : zs ≡ section_bytes s
  here : section_at e 20 zs nothing ≡ ok one
  kind : get_or zs 0 0 ≡ 0
  read : BodyRead 20 zs nothing one

module _ (e : Edition) (s : List ℕ) (v : View) (h : read e s ≡ ok v) (b : Bytes s) (known : Known 32 (flag_word s) e.bits) where
  front_fits : {ys zs : List ℕ} {p : Parts} → Front e s ys zs p → length ys ≤ length (section_bytes s)
  front_fits {ys} {zs} f = rw (← f.joined, length-append) (omega arith)

  -- the message with a front of the sections is read, where all sections are those of the front and more
  front_read : {ys zs : List ℕ} {p : Parts} (rs : List Section) → Front e s ys zs p → (reads h).sections.sections ≡ p.sections ++ rs → read e (made s ys) ≡ ok (view_of e (made s ys) p)
  front_read {ys} {zs} {p} rs f i =
      made_read e s v h b known ys (front_fits f) p f.walked f.body
      (front_differ ys zs p.sections rs f.body f.inside f.names (rw (f.joined, ← i) (reads h).differ))

  -- a front with one sequence more
  module _ (ys zs : List ℕ) (p : Parts) (one : Step Parts) (f : Front e s ys zs p) (n : Next e ys zs p one) where
    next_length : length (ys ++ take one.size zs) ≡ length ys + one.size
    next_length = rw (length-append, length-take-le one.size zs (omega (arith, n.read.size, n.read.whole)))

    next_front : Front e s (ys ++ take one.size zs) (drop one.size zs) one.state
    next_front =
        let r = n.read in
        let l = next_length in
        let m = length-append ys (take one.size zs) in
        let first = body_before p.sections (sequence_in (20 + length ys) zs r.run.documents ∷ []) f.body in
        record {
          joined = append_assoc ys (take one.size zs) (drop one.size zs) ∙ ap (λ (l : List ℕ). ys ++ l) (take-append-drop one.size zs) ∙ f.joined;
          walked =
              walk_append (section_at e) (section_steady e) (length ys) one.size _ 20 ys (take one.size zs) nothing (omega arith) (omega arith) (omega arith) f.walked
              ∙ walk_one (section_at e) (section_steady e) one.size (20 + length ys) zs p one (omega arith) n.here;
          body = rw (r.added, first) f.body;
          inside = rw (r.added, first) (omega (arith, f.inside));
          names = rw (r.added, l)
              (within_append _ p.sections _ (within_more (length ys) _ p.sections (omega arith) f.names) (omega (arith, r.ended, r.size), tt));
        }

    next_bytes : sequence_bytes (name_of zs) (documents_of zs) ≡ take one.size zs
    next_bytes = let r = n.read in rw r.size (sequence_bytes_lem zs r.least r.whole r.ended (left_bytes s ys zs f.joined b) n.kind)

    -- it is what appending gives
    next_made : (rs : List Section) (out : List ℕ) → (reads h).sections.sections ≡ one.state.sections ++ rs → Room s out
        → let at = 20 + length ys in
        first_message (output (append e (made s ys) (cut s (record { start = at + 5; length = name_length zs })) (cut s (record { start = at + (name_length zs + 6); length = documents_length zs })) (length out)) out)
        ≡ made s (ys ++ take one.size zs)
    unfolding cut
    next_made rs out i room =
        let r = n.read in
        let name = left_part s ys zs f.joined 5 (name_length zs) (omega (arith, r.ended, r.whole)) in
        let documents = left_part s ys zs f.joined (name_length zs + 6) (documents_length zs) (omega (arith, r.ended, r.whole)) in
        let before = i ∙ ap (λ (l : List Section). l ++ rs) r.added ∙ append_assoc p.sections _ rs in
        let l = name_length_lem zs r.least r.whole r.ended in
        rw (name, documents, ← next_bytes)
        (append_made e s v h b known ys (name_of zs) (documents_of zs) out p (view_of e (made s (ys ++ take one.size zs)) one.state)
        (rw next_bytes (front_fits next_front)) room n.known r.room (omega (arith, r.some)) (name_whole zs r.least r.whole r.ended ∙ sym l)
        (front_read _ f before) (rw next_bytes (front_read rs next_front i)))

  -- the sections of the message behind those of p, whose sequences, appended to the front ys, give the message again
  record Left (ys : List ℕ) (p : Parts) : Type 0 where
    sections : List Section
    behind : (reads h).sections.sections ≡ p.sections ++ sections
    remakes : (outs : ℕ → List ℕ) → ((i : ℕ) → Room s (outs i)) → appended_to e s (made s ys) sections outs ≡ made s (section_bytes s)

  none_left : (ys : List ℕ) (p : Parts) → Front e s ys [] p → ok p ≡ ok (reads h).sections → Left ys p
  unfolding appended_to
  none_left ys p f h = record {
    sections = [];
    behind = ap (λ (q : Parts). q.sections) (sym (ok_same h)) ∙ sym (append-nil p.sections);
    remakes = λ outs room. ap (made s) (sym (append-nil ys) ∙ f.joined);
  }

  next_left : (ys zs : List ℕ) (p : Parts) (one : Step Parts) → Front e s ys zs p → Next e ys zs p one → Left (ys ++ take one.size zs) one.state → Left ys p
  unfolding appended_to
  next_left ys zs p one f n left = record {
    sections = sequence_in (20 + length ys) zs n.read.run.documents ∷ left.sections;
    behind = left.behind ∙ ap (λ (l : List Section). l ++ left.sections) n.read.added ∙ append_assoc p.sections _ left.sections;
    remakes = λ outs room.
        ap (λ (m : List ℕ). appended_to e s m left.sections (λ i. outs (suc i))) (next_made ys zs p one f n left.sections (outs 0) left.behind (room 0))
        ∙ left.remakes (λ i. outs (suc i)) (λ i. room (suc i));
  }

  remake : (turns : ℕ) (ys zs : List ℕ) (p : Parts) → length zs ≤ turns → Front e s ys zs p → walk (section_at e) turns (20 + length ys) zs p ≡ ok (reads h).sections → Left ys p
  remake zero ys [] p l f w = none_left ys p f (sym (walk_done (section_at e) zero _ p) ∙ w)
  remake zero ys (z ∷ zs) p l f w = absurd (omega arith)
  remake (suc turns) ys [] p l f w = none_left ys p f (sym (walk_done (section_at e) (suc turns) _ p) ∙ w)
  remake (suc turns) ys (z ∷ zs) p l f w =
      bound (section_at e (20 + length ys) (z ∷ zs) p) _ (sym (walk_step (section_at e) turns _ (z ∷ zs) p (omega arith)) ∙ w) λ one here rest.
      let n = next_is f here (section_read e (20 + length ys) (z ∷ zs) p one here) in
      let place : 20 + length (ys ++ take one.size (z ∷ zs)) ≡ 20 + length ys + one.size = omega (arith, next_length ys (z ∷ zs) p one f n) in
      next_left ys (z ∷ zs) p one f n
      (remake turns _ (drop one.size (z ∷ zs)) one.state (rw length-drop (omega (arith, n.read.size))) (next_front ys (z ∷ zs) p one f n) (rw place rest))

  -- the front with the body alone
  module _ (zs : List ℕ) (one : Step Parts) (first : First e s zs one) where
    abbrev size : ℕ
    size = first.read.document.size

    first_framed : Framed (drop 1 zs) size
    first_framed = document_framed max_levels 21 (drop 1 zs) 0 first.read.document first.read.read

    first_fits : 1 + size ≤ length zs
    first_fits = omega (arith, first_framed.low, first_framed.fits, length-drop 1 zs)

    first_length : length (take one.size zs) ≡ one.size
    first_length = length-take-le one.size zs (omega (arith, first_fits, first.read.size))

    first_front : Front e s (take one.size zs) (drop one.size zs) one.state
    unfolding body_of
    first_front =
        let r = first.read in
        record {
          joined = take-append-drop one.size zs ∙ first.joined;
          walked = rw first_length (walk_one (section_at e) (section_steady e) one.size 20 zs nothing one (omega arith) first.here);
          body = rw r.added (omega arith);
          inside = rw (r.added, first_length) (omega (arith, r.size, first_framed.low));
          names = rw r.added tt;
        }

    first_bytes : take one.size zs ≡ 0 ∷ take size (drop 1 zs)
    first_bytes = ap (λ (n : ℕ). take n zs) first.read.size ∙ rw (take-add 1 size zs, take-suc zs 0 0 (omega (arith, first_fits)), first.kind)

    -- it is what writing gives
    first_made : (rs : List Section) (out : List ℕ) → (reads h).sections.sections ≡ one.state.sections ++ rs → Room s out
        → first_message (output (write e (signed (word_at 4 s)) (signed (word_at 8 s)) (flag_word s) (cut s (record { start = 21; length = size })) (length out)) out) ≡ made s (take one.size zs)
    unfolding cut
    first_made rs out i room =
        let f = first_framed in
        let document = left_part s [] zs first.joined 1 size first_fits in
        let l = length-take-le size (drop 1 zs) f.fits in
        rw (document, first_bytes)
        (write_made e s v h b known (take size (drop 1 zs)) out _ (omega (arith, first_fits, ap length first.joined)) (agree_word (agree_take f.fits) (omega (arith, f.low)) ∙ sym f.is ∙ sym l)
        (omega (arith, f.low)) room (rw first_bytes at (front_read rs first_front i)))

  -- what the view shows of sections that begin with the body
  shown_sections : sections_of v ≡ (reads h).sections.sections ++ replicate (max_sections - length (reads h).sections.sections) None
  shown_sections = section_list (reads h)

  view_shows : (size : ℕ) (rs : List Section) → (reads h).sections.sections ≡ body_at 20 size ∷ rs
      → (v.request_id ≡ signed (word_at 4 s)) × (v.response_to ≡ signed (word_at 8 s)) × (v.flags ≡ flag_word s)
      × (body_of (sections_of v) ≡ record { start = 21; length = size })
  unfolding view_of body_of
  view_shows size rs i =
      let q = (reads h).view in (
        sym (ap (λ (x : View). x.request_id) q),
        sym (ap (λ (x : View). x.response_to) q),
        sym (ap (λ (x : View). x.flags) q) ∙ flags_kept e s v h b known,
        ap body_of shown_sections ∙ body_nones (max_sections - length (reads h).sections.sections) (reads h).sections.sections ∙ ap body_of i,
      )

  -- what says none appends nothing
  appended_nones : (n : ℕ) (m : List ℕ) (qs : List Section) (outs : ℕ → List ℕ) → appended_to e s m (qs ++ replicate n None) outs ≡ appended_to e s m qs outs
  unfolding appended_to
  appended_nones zero m [] outs = refl
  appended_nones (suc n) m [] outs = appended_nones n m [] outs
  appended_nones n m (None ∷ qs) outs = appended_nones n m qs outs
  appended_nones n m (Body range ∷ qs) outs = appended_nones n m qs outs
  appended_nones n m (Sequence identifier documents number ∷ qs) outs = appended_nones n (first_message (output (append e m (cut s identifier) (cut s documents) (length (outs 0))) (outs 0))) qs (λ i. outs (suc i))

  appends_shown : (size : ℕ) (rs : List Section) → (reads h).sections.sections ≡ body_at 20 size ∷ rs → (m : List ℕ) (outs : ℕ → List ℕ)
      → appended_to e s m (sections_of v) outs ≡ appended_to e s m rs outs
  unfolding appended_to
  appends_shown size rs i m outs =
      ap (λ (l : List Section). appended_to e s m l outs) shown_sections ∙ appended_nones (max_sections - length (reads h).sections.sections) m (reads h).sections.sections outs
      ∙ ap (λ (l : List Section). appended_to e s m l outs) i

  from_body : (turns : ℕ) (zs : List ℕ) (one : Step Parts) → length zs ≤ suc turns → First e s zs one
      → walk (section_at e) turns (20 + one.size) (drop one.size zs) one.state ≡ ok (reads h).sections
      → (outs : ℕ → List ℕ) → ((i : ℕ) → Room s (outs i)) → remade e s v outs ≡ first_message s
  unfolding remade sections_of
  from_body turns zs one l first rest outs room =
      let r = first.read in
      let size = first_length zs one first in
      let left = remake turns (take one.size zs) (drop one.size zs) one.state (rw length-drop (omega (arith, r.size))) (first_front zs one first) (rw size rest) in
      let begins = left.behind ∙ ap (λ (l : List Section). l ++ left.sections) r.added in
      let shown = view_shows r.document.size left.sections begins in
      rw (remade, shown.0, shown.1, shown.2, shown.3, first_made zs one first left.sections (outs 0) left.behind (room 0))
      (appends_shown r.document.size left.sections begins _ (λ i. outs (suc i)) ∙ left.remakes (λ i. outs (suc i)) (λ i. room (suc i)) ∙ whole_made e s v h b known)

  -- a sequence doesn't come first
  not_first : (n : ℕ) (zs : List ℕ) (one : Step Parts) (rs : List Section) → BodyFirst v → one.state.sections ≡ sequence_in 20 zs n ∷ [] → (reads h).sections.sections ≡ one.state.sections ++ rs → ⊥
  unfolding sequences_before
  not_first n zs one rs z added i =
      let unused = replicate (max_sections - length (reads h).sections.sections) None in
      let listed = shown_sections ∙ ap (λ (l : List Section). l ++ unused) (i ∙ ap (λ (l : List Section). l ++ rs) added) in
      let k : sequences_before (sections_of v) ≡ suc _ = ap sequences_before listed in
      omega arith

  first_is : (zs : List ℕ) (one : Step Parts) (rs : List Section) → zs ≡ section_bytes s → BodyFirst v → section_at e 20 zs nothing ≡ ok one → (reads h).sections.sections ≡ one.state.sections ++ rs
      → SectionRead e 20 zs nothing one → First e s zs one
  first_is zs one rs joined z here i (a_sequence k c r) = absurd (not_first r.run.documents zs one rs z r.added i)
  first_is zs one rs joined z here i (a_body k r) = record { joined = joined; here = here; kind = k; read = r }

  -- a message that is read has sections
  no_sections : ok nothing ≡ ok (reads h).sections → ⊥
  unfolding body_of
  no_sections i = eqb-false (body_of (reads h).sections.sections).start 0 (reads h).body (rw (← ok_same i))

  from_sections : (turns : ℕ) (zs : List ℕ) → length zs ≤ turns → zs ≡ section_bytes s → BodyFirst v → walk (section_at e) turns 20 zs nothing ≡ ok (reads h).sections
      → (outs : ℕ → List ℕ) → ((i : ℕ) → Room s (outs i)) → remade e s v outs ≡ first_message s
  from_sections turns [] l joined z w outs room = absurd (no_sections (sym (walk_done (section_at e) turns 20 nothing) ∙ w))
  from_sections zero (x ∷ zs) l joined z w outs room = absurd (omega arith)
  from_sections (suc turns) (x ∷ zs) l joined z w outs room =
      bound (section_at e 20 (x ∷ zs) nothing) _ (sym (walk_step (section_at e) turns 20 (x ∷ zs) nothing (omega arith)) ∙ w) λ one here rest.
      let o = walk_other e e turns (20 + one.size) (drop one.size (x ∷ zs)) one.state (reads h).sections rest in
      from_body turns (x ∷ zs) one l (first_is (x ∷ zs) one o.sections joined z here o.behind (section_read e 20 (x ∷ zs) nothing one here)) rest outs room

-- `RoundTrip.first`
pub first : (e : Edition) (s : List ℕ) (v : View) (outs : ℕ → List ℕ) → Bytes s → read e s ≡ ok v → BodyFirst v → KnowsBits 32 e s → ((i : ℕ) → Room s (outs i))
    → remade e s v outs ≡ first_message s
unfolding parts section_bytes
first e s v outs b h z k room =
    from_sections e s v h b (bits_known 32 (flag_word s) e.bits k) (sections_end s) (section_bytes s) (rw length-take (omega arith)) refl z (reads h).listed outs room
