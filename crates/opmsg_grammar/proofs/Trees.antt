-- What a tree of sections tells, and what reading finds of the sections that it lists: the identifiers, the body, and how many there are of each.
-- Assumes nothing.
use Prim.Native.Nat.{ℕ, suc, ◌+◌, ◌-◌, ◌≤◌, ◌<◌}
use mathlib.Core.Path.{◌≡◌, refl, ap, ◌∙◌}
use mathlib.Core.List.{List, [], ◌∷◌, ◌++◌}
use native.Mathlib.Omega.{arith}
use lib.ListN.{length, take, drop}
use lib.Seq.{take_at}
use Rattle.wire.specs.Bytes.{le32}
use Rattle.bson.specs.Document.{max_levels}
use Rattle.bson_grammar.specs.Grammar.{Document}
use Rattle.bson_grammar.proofs.Texts.{document_long}
use Rattle.opmsg.specs.Sections.{body_of, sequences_of}
use Rattle.opmsg.specs.Names.{body_elements, texts}
use Rattle.opmsg.specs.Names as Read
use Rattle.opmsg.proofs.Shown.{Sequences, Single}
use Rattle.message.proofs.Renamed.{next_bytes, chunk_part}
use Rattle.opmsg_grammar.specs.Grammar.{Names, document_names, Section, Sections, bodies, identifiers, shown, listed}
use Rattle.opmsg_grammar.proofs.Complete.{sequence_length}
use Rattle.opmsg.specs.declared.Edition.{Edition}
use Rattle.opmsg.specs.declared.Section as Shown

-- ---- sequences

-- the identifier of a sequence, in its bytes
sequence_text : (text xs : List ℕ) → take (length text) (drop 5 (1 ∷ le32 (length text + 5 + length xs) ++ text ++ 0 ∷ xs)) ≡ text
unfolding le32
sequence_text text xs = take_at text (0 ∷ xs) (length text) refl

module _ {e : Edition} where
  pub listed_sequences : {xs : List ℕ} {n : ℕ} (at : ℕ) (tree : Sections e xs n) → length (sequences_of (listed at tree)) ≡ length (identifiers tree)
  unfolding listed shown sequences_of identifiers
  listed_sequences at Sections.none = refl
  listed_sequences at (Sections.more {xs} (Section.body d) ss) = listed_sequences (at + length xs) ss
  listed_sequences at (Sections.more {xs} (Section.sequence text k some z u ds) ss) = ap suc (listed_sequences (at + length xs) ss)

  -- the identifiers behind the same bytes
  behind_listed : {xs us vs : List ℕ} {n a b : ℕ} (tree : Sections e xs n) {ts : List (List ℕ)} → us ≡ vs → a ≡ b
      → texts (Read.identifiers vs (listed b tree)) ≡ ts → texts (Read.identifiers us (listed a tree)) ≡ ts
  behind_listed tree i j h = rw (i, j) h

  -- the identifiers behind the bytes ys
  pub listed_identifiers : {xs : List ℕ} {n : ℕ} (ys : List ℕ) (tree : Sections e xs n)
      → texts (Read.identifiers (ys ++ xs) (listed (20 + length ys) tree)) ≡ identifiers tree
  unfolding listed shown Read.identifiers texts identifiers
  listed_identifiers ys Sections.none = refl
  listed_identifiers ys (Sections.more {xs} {ys = zs} (Section.body d) ss) =
      let n = next_bytes ys xs zs (length xs) refl in
      behind_listed ss n.0 n.1 (listed_identifiers (ys ++ xs) ss)
  listed_identifiers ys (Sections.more {xs} {ys = zs} (Section.sequence {xs = documents} text k some z u ds) ss) =
      let n = next_bytes ys xs zs (length xs) refl in
      let own = chunk_part ys xs zs 5 (length text) (omega (arith, sequence_length text documents)) ∙ sequence_text text documents in
      rw own (ap (λ (l : List (List ℕ)). text ∷ l) (behind_listed ss n.0 n.1 (listed_identifiers (ys ++ xs) ss)))

-- ---- the body

-- the names of the first body of a tree behind the bytes ys, and where reading finds its elements
pub record BodyIs (ys xs : List ℕ) (held : ℕ) (qs : List Shown.Section) (names : Names) : Type 0 where
  pub bytes : List ℕ
  pub elements : ℕ
  pub document : Document max_levels bytes elements
  pub few : elements ≤ held
  pub named : document_names max_levels bytes elements document ≡ names
  pub start : 0 < (body_of qs).start
  pub size : (body_of qs).length ≡ length bytes
  pub content : body_elements (ys ++ xs) qs ≡ take (length bytes - 5) (drop 4 bytes)

module _ {e : Edition} where
  pub body_is : {xs : List ℕ} {n : ℕ} (ys : List ℕ) (tree : Sections e xs n) (names : Names) (others : List Names) → bodies tree ≡ names ∷ others
      → BodyIs ys xs n (listed (20 + length ys) tree) names
  unfolding bodies listed shown body_of
  body_is ys Sections.none names others h = absurd (omega (arith, ap length h))
  body_is ys (Sections.more {xs} {ys = zs} (Section.body {n} {xs = ds} d) ss) names others h =
      let five = document_long d in
      let i : 20 + length ys + 1 + 4 ≡ 20 + length ys + 5 = omega arith in
      record {
        bytes = ds;
        elements = n;
        document = d;
        few = omega arith;
        named = cc;
        start = omega arith;
        size = refl;
        content = rw i (chunk_part ys (0 ∷ ds) zs 5 (length ds - 5) (omega arith));
      }
  body_is ys (Sections.more {xs} {ys = zs} (Section.sequence text k some z u ds) ss) names others h =
      let n = next_bytes ys xs zs (length xs) refl in
      let r = body_is (ys ++ xs) ss names others h in
      record {
        bytes = r.bytes;
        elements = r.elements;
        document = r.document;
        few = omega (arith, r.few);
        named = r.named;
        start = rw n.1 r.start;
        size = rw n.1 r.size;
        content = rw (n.0, n.1) r.content;
      }

  -- no body, and one at most
  bodies_none : {xs : List ℕ} {n : ℕ} (at : ℕ) (tree : Sections e xs n) → Sequences (listed at tree) → bodies tree ≡ []
  unfolding bodies listed shown
  bodies_none at Sections.none h = refl
  bodies_none at (Sections.more (Section.body d) ss) h = absurd h
  bodies_none at (Sections.more {xs} (Section.sequence text k some z u ds) ss) h = bodies_none (at + length xs) ss h

  pub bodies_one : {xs : List ℕ} {n : ℕ} (at : ℕ) (tree : Sections e xs n) → Single (listed at tree) → 0 < (body_of (listed at tree)).start → (names : Names) × (bodies tree ≡ names ∷ [])
  unfolding bodies listed shown body_of
  bodies_one at Sections.none h some = absurd (omega arith)
  bodies_one at (Sections.more {xs} (Section.body {n} {xs = ds} d) ss) h some =
      (document_names max_levels ds n d, ap (λ (l : List Names). document_names max_levels ds n d ∷ l) (bodies_none (at + length xs) ss h))
  bodies_one at (Sections.more {xs} (Section.sequence text k known z u ds) ss) h some = bodies_one (at + length xs) ss h some

  none_listed : {xs : List ℕ} {n : ℕ} (at : ℕ) (tree : Sections e xs n) → bodies tree ≡ [] → Sequences (listed at tree)
  unfolding bodies listed shown
  none_listed at Sections.none h = tt
  none_listed at (Sections.more (Section.body d) ss) h = absurd (omega (arith, ap length h))
  none_listed at (Sections.more {xs} (Section.sequence text k some z u ds) ss) h = none_listed (at + length xs) ss h

  pub one_listed : {xs : List ℕ} {n : ℕ} (at : ℕ) (tree : Sections e xs n) (names : Names) → bodies tree ≡ names ∷ [] → Single (listed at tree)
  unfolding bodies listed shown
  one_listed at Sections.none names h = tt
  one_listed at (Sections.more {xs} (Section.body {n} {xs = ds} d) ss) names h =
      let rest : bodies ss ≡ [] = cc in
      none_listed (at + length xs) ss rest
  one_listed at (Sections.more {xs} (Section.sequence text k some z u ds) ss) names h = one_listed (at + length xs) ss names h
