-- A new section of kind 1: what reading makes of it behind other sections, and which names it brings.
-- Assumes nothing.
use Prim.Native.Nat.{ℕ, suc, ◌+◌, ◌-◌, ◌^◌, ◌<◌}
use mathlib.Core.Bool.{Bool, true, false, ◌||◌}
use mathlib.Core.Path.{◌≡◌, refl, sym, ap, ◌∙◌}
use mathlib.Core.List.{List, [], ◌∷◌, ◌++◌, append-nil, append_assoc}
use native.Mathlib.Omega.{arith}
use lib.ListN.{length, get_or, take, drop, length-append, drop_of_length-le}
use lib.Seq.{take_at, take_all, drop-append-add, drop-drop}
use lib.Dec.{eqb}
use borrow.Author.Tests.{le-ltb, lt-leb, ne_eqb}
use Rattle.wire.specs.Outcome.{Outcome, ok, refuse, ◌>>=◌}
use Rattle.wire.specs.Bytes.{word, until_zero, le32}
use Rattle.wire.specs.Walk.{walk}
use Rattle.wire.proofs.Outcome.{pass, passed, same_after, assoc}
use Rattle.wire.proofs.Bytes.{not_under, until_stop, until_go, word_le32}
use Rattle.wire.proofs.Walk.{walk_done, walk_step}
use Rattle.utf8.specs.Text.{text_at}
use Rattle.opmsg.specs.Flags.{knows}
use Rattle.opmsg.specs.Sections.{max_sequences, sequence_at, body_of, sequences_of, Parts, Run, next_document, sequence_run, sequence_named, sequence_section, section_of, section_at}
use Rattle.opmsg.specs.Names.{Name, among, distinct, part, body_elements, body_names, identifiers, texts}
use Rattle.opmsg.specs.Dotted.{found}
use Rattle.opmsg.specs.Inner.{clashes}
use Rattle.opmsg.specs.Read.{distinct_names}
use Rattle.opmsg.specs.declared.Edition.{Edition}
use Rattle.opmsg.specs.declared.Section.{Section}
use Rattle.opmsg.proofs.Accepted.{Differ}
use Rattle.opmsg.proofs.Differ.{front_part, front_identifiers, identifiers_append}
use Rattle.opmsg.proofs.Shown.{body_sequence}
use Rattle.message.specs.Append.{sequence_bytes}
use Rattle.opmsg_body_names.proofs.Texts.{among_append, among_last}
use Rattle.opmsg_documents.proofs.Turns.{run_turns}
use Rattle.message_append_store.proofs.Size.{size_of, bytes_length}
use Rattle.message_append_checks.proofs.Held.{Held}

-- a text without a zero byte ends at the zero byte behind it
until_append : (xs r : List ℕ) → until_zero xs ≡ length xs → until_zero (xs ++ (0 ∷ r)) ≡ length xs
until_append [] r h = until_stop 0 r refl
until_append (x ∷ xs) r h = go (eqb x 0) refl (until_append xs r)
  where
    go : (t : Bool) → eqb x 0 ≡ t → (until_zero xs ≡ length xs → until_zero (xs ++ (0 ∷ r)) ≡ length xs) → until_zero (x ∷ xs ++ (0 ∷ r)) ≡ suc (length xs)
    go true t rest = absurd (omega (arith, h, until_stop x xs t))
    go false t rest = until_go x _ t ∙ ap suc (rest (omega (arith, h, until_go x xs t)))

module _ (name documents : List ℕ) where
  -- its size, and its bytes
  abbrev size : ℕ
  size = size_of name documents

  abbrev bytes : List ℕ
  bytes = sequence_bytes name documents

  bytes_kind : get_or bytes 0 0 ≡ 1
  unfolding sequence_bytes
  bytes_kind = refl

  bytes_size : size < 2 ^ 32 → word (drop 1 bytes) ≡ size
  unfolding sequence_bytes
  bytes_size l = word_le32 size _ l

  behind_size : drop 5 bytes ≡ name ++ (0 ∷ documents)
  unfolding sequence_bytes le32
  behind_size = refl

  bytes_name : until_zero name ≡ length name → until_zero (take (size - 4) (drop 5 bytes)) ≡ length name
  bytes_name z = rw (behind_size, take_all (size - 4) (name ++ (0 ∷ documents)) (omega (arith, length-append name (0 ∷ documents)))) (until_append name documents z)

  bytes_documents : take (size - (length name + 5)) (drop (length name + 6) bytes) ≡ documents
  bytes_documents =
      let i : 5 + (length name + 1) ≡ length name + 6 = omega arith in
      let rest : drop (length name + 6) bytes ≡ documents =
      rw (← i) (sym (drop-drop (length name + 1) 5 bytes) ∙ ap (drop (length name + 1)) behind_size ∙ drop-append-add name (0 ∷ documents) 1) in
      rw rest (take_all (size - (length name + 5)) documents (omega arith))

  bytes_text : take (length name) (drop 5 bytes) ≡ name
  bytes_text = rw behind_size (take_at name (0 ∷ documents) (length name) refl)

  -- its documents alone, at their place
  abbrev documents_at : (at elements : ℕ) → Outcome Run
  documents_at at elements = walk next_document (length documents) (at + (length name + 6)) documents (record { documents = 0; elements = elements })

  -- its identifier as text, and then its documents
  abbrev pub run_at : (at elements : ℕ) → Outcome Run
  run_at at elements = text_at (at + 5) name >>= λ _. documents_at at elements

  -- the parts with it behind them
  abbrev pub with_section : (at : ℕ) → Parts → Run → Parts
  with_section at p run = record { sections = p.sections ++ (sequence_at at (length name) (length documents) run.documents ∷ []); elements = run.elements }

  module _ (e : Edition) (at : ℕ) (p : Parts) (k : knows e 1 ≡ true) (room : length (sequences_of p.sections) < max_sequences)
      (some : 0 < length name) (z : until_zero name ≡ length name) (small : size < 2 ^ 31) where
    section_checked : section_at e at bytes p ≡ (text_at (at + 5) name >>= λ _. sequence_run (length name) size at bytes p)
    unfolding section_at section_of sequence_section sequence_named ◌>>=◌ refuse
    section_checked =
        rw (
          bytes_kind,
          k,
          lt-leb max_sequences (length (sequences_of p.sections)) room,
          bytes_length name documents,
          le-ltb (1 + size) 5 (omega arith),
          bytes_size (omega arith),
          not_under 5 size (omega arith) small,
          le-ltb (1 + size) (1 + size) (omega arith),
          bytes_name z,
          ne_eqb (length name) 0 (λ i. omega arith),
          lt-leb (size - 4) (length name) (omega arith),
          bytes_text,
        )

    -- it is read as its identifier and its documents are
    pub section_walked : walk (section_at e) (1 + size) at bytes p ≡ (run_at at p.elements >>= λ run. ok (with_section at p run))
    unfolding sequence_run ◌>>=◌
    section_walked =
        let i : 1 + size ≡ suc size = omega arith in
        let l = bytes_length name documents in
        let d : size - (length name + 5) ≡ length documents = omega arith in
        let end : drop (1 + size) bytes ≡ [] = drop_of_length-le bytes {i = 1 + size} (omega arith) in
        ap (λ (n : ℕ). walk (section_at e) n at bytes p) i ∙ walk_step (section_at e) size at bytes p (omega arith)
        ∙ rw (section_checked, bytes_documents, d, run_turns size (length documents) (at + (length name + 6)) documents (record { documents = 0; elements = p.elements }) (omega arith) (omega arith))
        (assoc (text_at (at + 5) name) _ _
        ∙ same_after (text_at (at + 5) name) _ _ (λ _ _. assoc (documents_at at p.elements) _ _ ∙ same_after (documents_at at p.elements) _ _ (λ run g. rw end (walk_done (section_at e) size _ (with_section at p run))))
        ∙ sym (assoc (text_at (at + 5) name) _ _))

-- ---- names

-- two checks of one number and place are one
refuse_either : (number place : ℕ) (a b : Bool) → (refuse number place a >>= λ _. refuse number place b >>= λ _. ok tt) ≡ refuse number place (a || b)
unfolding ◌>>=◌ refuse
refuse_either number place true b = refl
refuse_either number place false true = refl
refuse_either number place false false = refl

-- a name behind others that differ: it is looked for among them and the texts of a base, and is tested
distinct_last : (number : ℕ) (test : List ℕ → Bool) (base : List (List ℕ)) (ns : List Name) (n : Name) → distinct number test base ns ≡ ok tt
    → distinct number test base (ns ++ (n ∷ [])) ≡ refuse number n.place (among (base ++ texts ns) n.text || test n.text)
unfolding distinct texts
distinct_last number test base [] n h = rw (append-nil base) (refuse_either number n.place (among base n.text) (test n.text))
distinct_last number test base (m ∷ ns) n h =
    let c = passed _ _ _ _ h in
    let d = passed _ _ _ _ c.1 in
    let t = n.text in
    let same : among (m.text ∷ (base ++ texts ns)) t ≡ among (base ++ (m.text ∷ texts ns)) t =
    among_append (m.text ∷ base) (texts ns) t
    ∙ rw (← among_last base m.text t, ← among_append (base ++ (m.text ∷ [])) (texts ns) t, append_assoc base (m.text ∷ []) (texts ns)) in
    pass number m.place _ c.0 ∙ pass number m.place _ d.0 ∙ distinct_last number test (m.text ∷ base) ns n d.1
    ∙ ap (λ (b : Bool). refuse number n.place (b || test t)) same

module _ (xs : List ℕ) (qs : List Section) (held : Held xs (length xs) qs) (d : Differ xs qs) (body : eqb (body_of qs).start 0 ≡ false) (name documents : List ℕ) (number : ℕ) where
  abbrev at : ℕ
  at = 20 + length xs

  abbrev more : List ℕ
  more = xs ++ sequence_bytes name documents

  abbrev new : Section
  new = sequence_at at (length name) (length documents) number

  same_body : body_of (qs ++ (new ∷ [])) ≡ body_of qs
  same_body = body_sequence qs _ _ _

  body_elements_lem : body_elements more (qs ++ (new ∷ [])) ≡ body_elements xs qs
  body_elements_lem = rw (same_body, front_part xs (sequence_bytes name documents) ((body_of qs).start + 4) ((body_of qs).length - 5) held.inside)

  body_names_lem : body_names more (qs ++ (new ∷ [])) ≡ body_names xs qs
  unfolding body_names
  body_names_lem = rw (body_elements_lem, same_body)

  new_name : part more (at + 5) (length name) ≡ name
  unfolding part
  new_name =
      let i : at + 5 - 20 ≡ length xs + 5 = omega arith in
      rw (i, drop-append-add xs (sequence_bytes name documents) 5, behind_size name documents) (take_at name _ (length name) refl)

  all_identifiers : identifiers more (qs ++ (new ∷ [])) ≡ identifiers xs qs ++ (record { place = at + 5; text = name } ∷ [])
  unfolding identifiers
  all_identifiers = identifiers_append more qs (new ∷ []) ∙ rw (front_identifiers xs (sequence_bytes name documents) qs held.names, new_name)

  -- of the new names the identifier alone can be refused
  pub names_checked : (end : ℕ) → distinct_names end more (qs ++ (new ∷ [])) ≡ refuse 24 (at + 5) (clashes xs qs name)
  unfolding distinct_names ◌>>=◌ refuse
  names_checked end =
      rw (distinct_names, body_names_lem, body_elements_lem, same_body, body, d.names, all_identifiers)
      (distinct_last 24 (found (body_elements xs qs)) (texts (body_names xs qs)) (identifiers xs qs) (record { place = at + 5; text = name }) d.all)
