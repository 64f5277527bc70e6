-- The names of a document's tree are those that reading finds in its bytes, and a text leads to one of them where it is found.
-- Assumes nothing.
use Prim.Native.Nat.{ℕ, zero, suc, ◌+◌, ◌-◌, ◌≤◌, ◌<◌}
use mathlib.Core.Bool.{Bool, true, false}
use mathlib.Core.Path.{◌≡◌, refl, sym, ap, ◌∙◌}
use mathlib.Core.Logic.{◌↔◌, inl, inr}
use mathlib.Core.List.Memᴰ
use mathlib.Core.List.{List, [], ◌∷◌, ◌++◌, append_assoc, append-nil}
use native.Mathlib.Omega.{arith}
use lib.ListN.{length, get_or, take, drop, length-append, length-drop}
use lib.Seq.{take_at, drop_at, take-append-le, drop-append-le, drop-append_seam}
use lib.Dec.{eqb}
use borrow.Author.Tests.{eqb-true, eqb-false}
use Rattle.wire.specs.Bytes.{word, le32}
use Rattle.wire.proofs.Outcome.{not_ok}
use Rattle.bson_elements.specs.Element.{element_size, max_elements}
use Rattle.bson.specs.Document.{document_at}
use Rattle.bson.proofs.Frame.{document_framed}
use Rattle.bson.proofs.Element.{element_document, element_over}
use Rattle.bson_grammar.specs.Grammar.{◌∈◌, ZeroEnded, Plain, Document, Elements, Element, Value}
use Rattle.bson_grammar.proofs.Texts.{before, until_first, document_long}
use Rattle.bson_grammar.proofs.Complete.{element_complete, document_complete}
use Rattle.opmsg.specs.Names.{name_text, names_of, texts}
use Rattle.opmsg.specs.Dotted.{elements_within, found}
use Rattle.opmsg.specs.Inner.{Filled}
use Rattle.opmsg_element_names.proofs.Texts.{not_both}
use Rattle.opmsg_element_names.proofs.Names.{filled_next, names_end}
use Rattle.opmsg_documents.proofs.Fill.{document_filled}
use Rattle.opmsg_dotted.specs.Paths
use Rattle.opmsg_dotted.proofs.Follow.{names_first, found_none}
use Rattle.opmsg_dotted.proofs.Paths.{on, sound, complete}
use Rattle.opmsg_grammar.specs.Grammar.{Names, text_of, names_inside, element_names, document_names, top, Leads}

-- ---- the bytes of a tree, whatever follows them

-- those of a document's elements
abbrev inner : List ℕ → List ℕ
inner ds = take (length ds - 5) (drop 4 ds)

inner_is : (xs : List ℕ) → inner (le32 (length xs + 5) ++ xs ++ 0 ∷ []) ≡ xs
unfolding le32
inner_is xs = take_at xs (0 ∷ []) (length (le32 (length xs + 5) ++ xs ++ 0 ∷ []) - 5) (simp length-append (omega arith))

module _ {k n : ℕ} {ds : List ℕ} (d : Document k ds n) (h : n ≤ max_elements) where
  pub inner_filled : Filled (inner ds)
  inner_filled = rw append-nil at (document_filled k 0 (ds ++ []) 0 _ (document_complete k 0 ds [] 0 n d (omega arith)))

  -- found by the length at their start
  inner_found : (rest : List ℕ) → take (word (ds ++ rest) - 5) (drop 4 (ds ++ rest)) ≡ inner ds
  inner_found rest =
      let framed = document_framed k 0 (ds ++ rest) 0 _ (document_complete k 0 ds rest 0 n d (omega arith)) in
      let five = document_long d in
      rw (← framed.is, drop-append-le 4 ds rest (omega arith)) (take-append-le (length ds - 5) (drop 4 ds) rest (simp length-drop (omega arith)))

-- an element is passed over by its size
behind : {k m : ℕ} {xs : List ℕ} → Element k xs m → m ≤ max_elements → (rest : List ℕ) → drop (element_size (xs ++ rest)) (xs ++ rest) ≡ rest
behind {k} {m} {xs} e h rest =
    let read = element_complete k (document_at k) (document_complete k) 0 xs rest 0 m e (omega arith) in
    rw (element_over (document_at k) (document_framed k) 0 (xs ++ rest) 0 _ read) (drop-append_seam xs rest)

-- it has its name
name_is : {name : List ℕ} (z : ZeroEnded name) (t : ℕ) (xs rest : List ℕ) → name_text (t ∷ name ++ xs ++ rest) ≡ text_of z
unfolding name_text text_of
name_is (ZeroEnded.ended text z u) t xs rest = rw (append_assoc (text ++ 0 ∷ []) xs rest, until_first text (xs ++ rest) z) (before text (xs ++ rest))

-- and the elements of its value, where that is a document
within_is : {k n : ℕ} {name xs : List ℕ} → ZeroEnded name → (t : ℕ) → Document k xs n → n ≤ max_elements → (rest : List ℕ)
    → elements_within (t ∷ name ++ xs ++ rest) ≡ inner xs
unfolding elements_within text_of
within_is {xs} (ZeroEnded.ended text z u) t d h rest =
    let front : List ℕ = t ∷ (text ++ 0 ∷ []) in
    let whole : List ℕ = front ++ xs ++ rest in
    let named : name_text whole ≡ text = name_is (ZeroEnded.ended text z u) t xs rest in
    let value : drop (length text + 2) whole ≡ xs ++ rest =
    ap (drop (length text + 2)) (append_assoc front xs rest) ∙ drop_at front (xs ++ rest) (length text + 2) (simp length-append (omega arith)) in
    rw (elements_within, named, value) (inner_found d h rest)

-- a plain value is not of type 03: it is read where no document is
plain_other : {t : ℕ} {name xs : List ℕ} → ZeroEnded name → Plain t xs → 1 ≤ max_elements → ¬ (t ≡ 0x03)
unfolding document_at
plain_other z p h three =
    let read = element_complete 0 (document_at 0) (document_complete 0) 0 _ [] 0 _ (Element.element z (Value.plain p)) (omega arith) in
    not_ok (element_document (document_at 0) 0 _ 0 _ read three).1

-- ---- the names of a tree are those read

read_elements : {k n : ℕ} {xs : List ℕ} (es : Elements k xs n) → n ≤ max_elements → Filled xs → top (element_names (document_names k) es) ≡ names_of xs
unfolding top element_names
read_elements Elements.none h f = unfold names_of texts in ap texts (sym (names_end 0 0))
read_elements (Elements.more {ys} (Element.element {t} {name} {xs} z value) es) h f =
    let whole : List ℕ = t ∷ name ++ xs ++ ys in
    let some : 0 < length whole = omega arith in
    let after = behind (Element.element z value) (omega arith) ys in
    let next = read_elements es (omega arith) (rw after at (filled_next f some).2) in
    rw (names_first whole f some, name_is z t xs ys, after, next)

-- the names of a document are read
pub names_read : (k : ℕ) (ds : List ℕ) (n : ℕ) (d : Document k ds n) → n ≤ max_elements → top (document_names k ds n d) ≡ names_of (take (length ds - 5) (drop 4 ds))
unfolding document_names
names_read zero ds n d h = elim d [ ]
names_read (suc k) ds n (Document.document {xs} es small) h =
    rw (inner_is xs) (read_elements es h (rw (inner_is xs) at (inner_filled (Document.document es small) h)))

-- ---- the texts that lead to a name are those found

-- that no dot is in a name, said of its places
without : (text : List ℕ) → (¬ (0x2E ∈ text)) ↔ Paths.WithoutDot text
without [] = (λ n i h e. absurd (omega arith), λ w. Memᴰ.not-nil)
without (x ∷ text) = (
  to (without text).0,
  λ w m. elim (Memᴰ.cases_cons m) [ inl e ↦ w 0 (omega arith) (sym e) | inr later ↦ (without text).1 (λ i h e. w (suc i) (omega arith) e) later ],
)
  where
    to : (¬ (0x2E ∈ text) → Paths.WithoutDot text) → ¬ (0x2E ∈ x ∷ text) → Paths.WithoutDot (x ∷ text)
    to below n zero h e = n (Memᴰ.head (sym e))
    to below n (suc i) h e = below (λ m. n (Memᴰ.tail m)) i (omega arith) e

-- no text leads to a name where there is none
leads_none {ℓ} : {A : Type ℓ} {text : List ℕ} → Leads Names.none text → A
leads_none l = elim l [ ]

-- the tree and the bytes lead alike, where they do inside the first element and from the others
module _ (xs : List ℕ) (some : 0 < length xs) (inside others : Names)
    (within : (text : List ℕ) → Leads inside text ↔ ((get_or xs 0 0 ≡ 0x03) × Paths.Leads (elements_within xs) text))
    (later : (text : List ℕ) → Leads others text ↔ Paths.Leads (drop (element_size xs) xs) text) where
  to_path : {text : List ℕ} → Leads (Names.name (name_text xs) inside others) text → Paths.Leads xs text
  to_path (Leads.there n) = Paths.there (Paths.first some) ((without (name_text xs)).0 n)
  to_path (Leads.within {on} n l) = let p = (within on).0 l in Paths.within (Paths.first some) ((without (name_text xs)).0 n) p.0 p.1
  to_path (Leads.later {on = text} l) = on xs text some ((later text).0 l)

  of_path : {text : List ℕ} → Paths.Leads xs text → Leads (Names.name (name_text xs) inside others) text
  of_path (Paths.there (Paths.first h) w) = Leads.there ((without (name_text xs)).1 w)
  of_path (Paths.there (Paths.later h e) w) = Leads.later ((later _).1 (Paths.there e w))
  of_path (Paths.within (Paths.first h) w three l) = Leads.within ((without (name_text xs)).1 w) ((within _).1 (three, l))
  of_path (Paths.within (Paths.later h e) w three l) = Leads.later ((later _).1 (Paths.within e w three l))

  path : (text : List ℕ) → Leads (Names.name (name_text xs) inside others) text ↔ Paths.Leads xs text
  path text = (to_path, of_path)

-- the same texts lead to a name in the tree of a document and in its bytes
abbrev Alike : ℕ → Type 0
Alike k = (ds : List ℕ) (n : ℕ) (d : Document k ds n) → n ≤ max_elements → (text : List ℕ) → Leads (document_names k ds n d) text ↔ Paths.Leads (inner ds) text

-- in one level, where it is so in the documents in it
module _ (k : ℕ) (alike : Alike k) where
  leads_inside : {t n : ℕ} {name xs : List ℕ} → ZeroEnded name → (value : Value k t xs n) → suc n ≤ max_elements → (rest text : List ℕ)
      → Leads (names_inside (document_names k) value) text ↔ ((t ≡ 0x03) × Paths.Leads (elements_within (t ∷ name ++ xs ++ rest)) text)
  unfolding names_inside
  leads_inside z (Value.plain p) h rest text = (leads_none, λ q. absurd (plain_other z p h q.0))
  leads_inside {name} z (Value.embedded {t} {n} {xs} m d) h rest text = go (eqb t 0x03) refl
    where
      go : (b : Bool) → eqb t 0x03 ≡ b
          → Leads (elim b [ true ↦ document_names k xs n d | false ↦ Names.none ]) text ↔ ((t ≡ 0x03) × Paths.Leads (elements_within (t ∷ name ++ xs ++ rest)) text)
      go true e =
          let p = rw (← within_is z t d (omega arith) rest) at (alike xs n d (omega arith) text) in
          (λ l. (eqb-true t 0x03 e, p.0 l), λ q. p.1 q.1)
      go false e = (leads_none, λ q. absurd (eqb-false t 0x03 e q.0))
  leads_inside z (Value.scoped m s d small) h rest text = (leads_none, λ q. absurd (omega (arith, q.0, Memᴰ.eq_of_singleton m)))

  leads_elements : {n : ℕ} {xs : List ℕ} (es : Elements k xs n) → n ≤ max_elements → (text : List ℕ) → Leads (element_names (document_names k) es) text ↔ Paths.Leads xs text
  unfolding element_names
  leads_elements Elements.none h text = (leads_none, λ l. not_both (found_none text) (complete l Filled.none))
  leads_elements (Elements.more {ys} (Element.element {t} {name} {xs} z value) es) h text =
      rw (← name_is z t xs ys)
      (path (t ∷ name ++ xs ++ ys) (omega arith) (names_inside (document_names k) value) (element_names (document_names k) es) (leads_inside z value (omega arith) ys)
      (λ other. rw (behind (Element.element z value) (omega arith) ys) (leads_elements es (omega arith) other)) text)

leads_document : (k : ℕ) → Alike k
unfolding document_names
leads_document zero ds n d h text = elim d [ ]
leads_document (suc k) ds n (Document.document {xs} es small) h text = rw (inner_is xs) (leads_elements k (leads_document k) es h text)

-- a text leads to a name where it is found
pub names_lead : (k : ℕ) (ds : List ℕ) (n : ℕ) (d : Document k ds n) → n ≤ max_elements → (text : List ℕ)
    → Leads (document_names k ds n d) text ↔ (found (take (length ds - 5) (drop 4 ds)) text ≡ true)
names_lead k ds n d h text =
    let f = inner_filled d h in
    let p = leads_document k ds n d h text in
    (λ l. complete (p.0 l) f, λ e. p.1 (sound (suc (length text)) text (omega arith) (inner ds) f e))
