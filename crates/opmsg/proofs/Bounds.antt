-- Where a message is refused: with a number from 1 to 27 but 26, at a place below 2 ^ 32.
-- Assumes nothing.
use Prim.Native.Nat.{ℕ, zero, suc, ◌+◌, ◌-◌, ◌^◌, ◌≤◌, ◌<◌}
use mathlib.Core.Bool.{Bool, true, false}
use mathlib.Core.List.{List, [], ◌∷◌, ◌++◌}
use native.Mathlib.Omega.{arith}
use lib.ListN.{length, get_or, take, drop, length-take, length-drop}
use lib.Dec.{eqb}
use borrow.Author.Tests.{ltb-false, leb-false}
use Rattle.wire.specs.Outcome.{Outcome}
use Rattle.wire.specs.Bytes.{word, until_zero}
use Rattle.wire.specs.Walk.{Step, walk}
use Rattle.wire.proofs.Meets.{Meets, good, knowing, other_fault, then, check, last, walk_meets}
use Rattle.utf8.specs.Text.{well_formed, text_at}
use Rattle.utf8.proofs.Longest.{text_is_utf8}
use Rattle.bson_elements.specs.Element.{element_size}
use Rattle.bson.specs.Document.{max_levels}
use Rattle.bson.proofs.Bounds.{Fault, UpTo, document_bounded}
use Rattle.opmsg.specs.Layout.{max_length, message_length, sections_end, section_bytes}
use Rattle.opmsg.specs.Sections.{body_of, Parts, nothing, Run, next_document, body_section, sequence_run, sequence_named, sequence_section, section_of, section_at}
use Rattle.opmsg.specs.Names.{Name, never, distinct, element_names, part, body_elements, body_names, identifiers, texts}
use Rattle.opmsg.specs.Dotted.{found}
use Rattle.opmsg.specs.Read.{header, flagged, parts, distinct_names, content, read}
use Rattle.opmsg.specs.declared.Edition.{Edition}
use Rattle.opmsg.specs.declared.Section.{Section}
use Rattle.opmsg.specs.declared.Section.TheVariants.{None, Body, Sequence}
use Rattle.opmsg.proofs.Limits.{max_length_small}
use Rattle.opmsg.proofs.Accepted.{headed, flags_passed}
use Rattle.opmsg.proofs.SectionRead.{SectionRead, a_body, a_sequence, section_read}
use Rattle.opmsg.proofs.Differ.{names_step, names_done}

-- sections whose body and identifiers start at `to` at most
abbrev Stand : (to : ℕ) → List Section → Type 0
Stand to [] = Unit {0}
Stand to (None ∷ qs) = Stand to qs
Stand to (Body range ∷ qs) = (range.start ≤ to) × Stand to qs
Stand to (Sequence identifier documents number ∷ qs) = (identifier.start ≤ to) × Stand to qs

module _ (to : ℕ) where
  stand_append : (qs rs : List Section) → Stand to qs → Stand to rs → Stand to (qs ++ rs)
  stand_append [] rs h k = k
  stand_append (None ∷ qs) rs h k = stand_append qs rs h k
  stand_append (Body range ∷ qs) rs h k = (h.0, stand_append qs rs h.1 k)
  stand_append (Sequence identifier documents number ∷ qs) rs h k = (h.0, stand_append qs rs h.1 k)

  -- one section more
  section_stands : {e : Edition} {at : ℕ} {xs : List ℕ} {p : Parts} {one : Step Parts} → at + length xs < to → 0 < length xs → Stand to p.sections → SectionRead e at xs p one
      → Stand to one.state.sections
  section_stands {p = p} l s h (a_body _ r) = rw r.added (stand_append p.sections _ h (omega arith, tt))
  section_stands {p = p} l s h (a_sequence _ _ r) = rw r.added (stand_append p.sections _ h (omega (arith, r.least, r.whole), tt))

  -- ---- sections

  body_bounded : (at : ℕ) (xs : List ℕ) (p : Parts) → at + length xs < to → 0 < length xs → UpTo to (body_section at xs p)
  unfolding body_section
  body_bounded at xs p l s =
      check 11 at _ _ (omega arith) λ _.
      then _ (document_bounded to max_levels (at + 1) (drop 1 xs) p.elements (omega (arith, length-drop 1 xs))) λ _ _ _.
      good tt

  next_bounded : (at : ℕ) (xs : List ℕ) (run : Run) → at + length xs < to → UpTo to (next_document at xs run)
  unfolding next_document
  next_bounded at xs run l = then _ (document_bounded to max_levels at xs run.elements l) λ _ _ _. good tt

  run_bounded : (n size at : ℕ) (xs : List ℕ) (p : Parts) → at + length xs < to → n + 5 ≤ size → 1 + size ≤ length xs → UpTo to (sequence_run n size at xs p)
  unfolding sequence_run
  run_bounded n size at xs p l k m =
      let inner = length-take (size - (n + 5)) (drop (n + 6) xs) in
      then _ (walk_meets next_document (λ (_ : Run). Unit {0}) (Fault to) to (λ at xs run l _ _. next_bounded at xs run l)
      size (at + (n + 6)) (take (size - (n + 5)) (drop (n + 6) xs)) _ (λ _. omega (arith, inner, length-drop (n + 6) xs)) tt) λ _ _ _.
      good tt

  sequence_bounded : (at : ℕ) (xs : List ℕ) (p : Parts) → at + length xs < to → 0 < length xs → UpTo to (sequence_section at xs p)
  unfolding sequence_section sequence_named text_at
  sequence_bounded at xs p l s =
      check 14 at _ _ (omega arith) λ _.
      check 12 (at + 1) _ _ (omega arith) λ d.
      check 12 (at + 1) _ _ (omega arith) λ _.
      check 12 (at + 1) _ _ (omega arith) λ f.
      let size = word (drop 1 xs) in
      let five = ltb-false (length xs) 5 d in
      let n = until_zero (take (size - 4) (drop 5 xs)) in
      check 13 (at + 5) _ _ (omega arith) λ _.
      check 13 (at + 5) _ _ (omega arith) λ i.
      let named = leb-false (size - 4) n i in
      let whole = ltb-false (length xs) (1 + size) f in
      let name = take n (drop 5 xs) in
      check 27 (at + 5 + well_formed name) _ _ (omega (arith, (text_is_utf8.longest name).fits, length-take n (drop 5 xs))) λ _.
      run_bounded n size at xs p l (omega arith) whole

  section_bounded : (e : Edition) (at : ℕ) (xs : List ℕ) (p : Parts) → at + length xs < to → 0 < length xs → UpTo to (section_at e at xs p)
  unfolding section_at section_of
  section_bounded e at xs p l s = check 10 at _ _ (omega arith) λ _. go (eqb (get_or xs 0 0) 0)
    where
      go : (b : Bool) → UpTo {A = Step Parts} to (elim b [ true ↦ body_section at xs p | false ↦ sequence_section at xs p ])
      go true = body_bounded at xs p l s
      go false = sequence_bounded at xs p l s

  sections_meet : (e : Edition) (turns : ℕ) (xs : List ℕ) → 20 + length xs < to → Meets (λ (p : Parts). Stand to p.sections) (Fault to) (walk (section_at e) turns 20 xs nothing)
  sections_meet e turns xs l =
      walk_meets (section_at e) (λ (p : Parts). Stand to p.sections) (Fault to) to
      (λ at xs p l s h. knowing (section_bounded e at xs p l s) (λ one k. section_stands l s h (section_read e at xs p one k))) turns 20 xs nothing (λ _. l) tt

  -- ---- names

  abbrev Placed : List Name → Type 0
  Placed [] = Unit {0}
  Placed (n ∷ ns) = (n.place ≤ to) × Placed ns

  distinct_bounded : (number : ℕ) (test : List ℕ → Bool) (texts : List (List ℕ)) (ns : List Name) → 1 ≤ number → number < 26 → Placed ns → UpTo to (distinct number test texts ns)
  unfolding distinct
  distinct_bounded number test texts [] l m h = good tt
  distinct_bounded number test texts (n ∷ ns) l m h =
      check number n.place _ _ (omega (arith, h.0)) λ _.
      check number n.place _ _ (omega (arith, h.0)) λ _.
      distinct_bounded number test (n.text ∷ texts) ns l m h.1

  names_placed : (turns at : ℕ) (xs : List ℕ) → (0 < length xs → at + length xs < to) → Placed (element_names turns at xs)
  names_placed zero at xs l = unfold element_names in tt
  names_placed (suc turns) at [] l = rw (names_done (suc turns) at) tt
  names_placed (suc turns) at (x ∷ xs) l =
      let some : at + length (x ∷ xs) < to = l (omega arith) in
      let n = element_size (x ∷ xs) in
      rw (names_step turns at (x ∷ xs) (omega arith)) (omega arith, names_placed turns (at + n) (drop n (x ∷ xs)) (λ left. omega (arith, length-drop n (x ∷ xs))))

  identifiers_placed : (xs : List ℕ) (qs : List Section) → Stand to qs → Placed (identifiers xs qs)
  unfolding identifiers
  identifiers_placed xs [] h = tt
  identifiers_placed xs (None ∷ qs) h = identifiers_placed xs qs h
  identifiers_placed xs (Body range ∷ qs) h = identifiers_placed xs qs h.1
  identifiers_placed xs (Sequence identifier documents number ∷ qs) h = (h.0, identifiers_placed xs qs h.1)

  body_stands : (qs : List Section) → Stand to qs → (body_of qs).start ≤ to
  unfolding body_of
  body_stands [] h = omega arith
  body_stands (None ∷ qs) h = body_stands qs h
  body_stands (Body range ∷ qs) h = h.0
  body_stands (Sequence identifier documents number ∷ qs) h = body_stands qs h.1

wider : {A : Type 0} {P : A → Type 0} {o : Outcome A} (to further : ℕ) → to ≤ further → Meets P (Fault to) o → Meets P (Fault further) o
wider to further l m = other_fault (λ number place q. (q.0, q.1, q.2, omega (arith, q.3))) m

-- the names of a body stand behind its start, in no more bytes than the sections have
names_bounded : (to end : ℕ) (xs : List ℕ) (qs : List Section) → Stand to qs → end ≤ to → UpTo (to + 5 + length xs) (distinct_names end xs qs)
unfolding distinct_names body_names part
names_bounded to end xs qs h l =
    let far = to + 5 + length xs in
    let place = (body_of qs).start + 4 in
    let size = (body_of qs).length - 5 in
    let fits = length-take size (drop (place - 20) xs) in
    check 22 end _ _ (omega arith) λ _.
    then _ (distinct_bounded far 23 never [] _ (omega arith) (omega arith)
    (names_placed far (body_of qs).length place (part xs place size) (λ _. omega (arith, body_stands to qs h, fits, length-drop (place - 20) xs)))) λ _ _ _.
    wider to far (omega arith) (distinct_bounded to 24 (found (body_elements xs qs)) (texts (body_names xs qs)) (identifiers xs qs) (omega arith) (omega arith) (identifiers_placed to xs qs h))

-- ---- a whole message

-- the largest place
abbrev pub most : ℕ
most = 2 ^ 32 - 1

header_bounded : (s : List ℕ) → UpTo most (header s)
unfolding header
header_bounded s =
    check 1 0 _ _ (omega arith) λ _.
    check 2 0 _ _ (omega arith) λ _.
    check 2 0 _ _ (omega arith) λ _.
    check 3 0 _ _ (omega arith) λ _.
    check 4 12 _ _ (omega arith) λ _.
    check 5 12 _ _ (omega arith) λ _.
    last 6 12 _ (omega arith)

flagged_bounded : (e : Edition) (s : List ℕ) → message_length s ≤ max_length → UpTo most (flagged e s)
unfolding flagged
flagged_bounded e s l =
    check 7 16 _ _ (omega arith) λ _.
    check 8 16 _ _ (omega arith) λ _.
    check 7 16 _ _ (omega arith) λ _.
    last 9 (message_length s - 4) _ (omega (arith, max_length_small))

content_bounded : (e : Edition) (s : List ℕ) → 20 ≤ message_length s → message_length s ≤ max_length → UpTo most (content e s)
unfolding content parts section_bytes sections_end
content_bounded e s b l =
    let xs = section_bytes s in
    let size = length-take (sections_end s - 20) (drop 20 s) in
    let to = 1 + message_length s in
    then _ (wider to most (omega (arith, max_length_small)) (sections_meet to e (sections_end s) xs (omega arith))) λ p _ h.
    then _ (wider (to + 5 + length xs) most (omega (arith, max_length_small)) (names_bounded to (sections_end s) xs p.sections h (omega arith))) λ _ _ _.
    good tt

pub read_bounded : (e : Edition) (s : List ℕ) → UpTo most (read e s)
unfolding read
read_bounded e s =
    then _ (header_bounded s) λ _ h _.
    let limit = (headed h).limit in
    then _ (flagged_bounded e s limit) λ _ f _.
    content_bounded e s (flags_passed f).least limit
