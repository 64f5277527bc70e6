-- What an OP_MSG message is, byte for byte, for a relay of an edition, and what it shows. It says nothing of reading, of refusals or of their order.
-- Documents are those of the grammar of BSON. As there, a type says of a run of bytes what it is, and what proves it is the tree: `Sections e xs elements`
-- says that xs are the bytes of sections that hold so many elements, over all levels of all their documents.
-- Assumes nothing: these are definitions.
use Rattle.std.specs.Prelude.{ℕ, zero, suc, ◌+◌, ◌^◌, ◌≤◌, ◌<◌, true, false, ◌≡◌, length, T, eqb}
use mathlib.Core.List.{List, [], ◌∷◌, ◌++◌, Memᴰ}
use Rattle.wire.specs.Bytes.{le32, signed}
use Rattle.utf8.specs.Utf8.{Utf8}
use Rattle.bson_elements.specs.Element.{max_elements}
use Rattle.bson.specs.Document.{max_levels}
use Rattle.bson_grammar.specs.Grammar.{◌∈◌, ZeroEnded, Document, Elements, Element, Value}
use Rattle.opmsg.specs.Flags.{bit, kept, knows}
use Rattle.opmsg.specs.Layout.{max_length}
use Rattle.opmsg.specs.Sections.{max_sequences, body_at, sequence_at}
use Rattle.opmsg.specs.View.{padded}
use Rattle.message.specs.Message.{checksum}
use Rattle.opmsg.specs.declared.Edition.{Edition}
use Rattle.opmsg.specs.declared.Section as Shown
use Rattle.opmsg.specs.declared.View.{View}

-- ---- sections

-- documents back to back, so many of them
pub data Documents : List ℕ → (documents elements : ℕ) → Type 0 where
  none : Documents [] 0 0
  more : {d m n : ℕ} {xs ys : List ℕ} → Document max_levels xs m → Documents ys d n → Documents (xs ++ ys) (suc d) (m + n)

-- a body: kind 0 and a document. A sequence, where the edition knows kind 1: kind 1, a size that counts from its own first byte, an identifier, which is
-- text that is not empty and holds no zero, a zero, and documents
pub data Section (e : Edition) : List ℕ → (elements : ℕ) → Type 0 where
  body : {n : ℕ} {xs : List ℕ} → Document max_levels xs n → Section e (0 ∷ xs) n
  sequence : {d n : ℕ} {xs : List ℕ} (text : List ℕ) → T (knows e 1) → 0 < length text → ¬ (0 ∈ text) → Utf8 text → Documents xs d n
      → Section e (1 ∷ le32 (length text + 5 + length xs) ++ text ++ 0 ∷ xs) n

-- sections back to back
pub data Sections (e : Edition) : List ℕ → (elements : ℕ) → Type 0 where
  none : Sections e [] 0
  more : {m n : ℕ} {xs ys : List ℕ} → Section e xs m → Sections e ys n → Sections e (xs ++ ys) (m + n)

-- the identifiers of their sequences
unfoldable pub identifiers : {e : Edition} {n : ℕ} {xs : List ℕ} → Sections e xs n → List (List ℕ)
identifiers Sections.none = []
identifiers (Sections.more (Section.body d) ss) = identifiers ss
identifiers (Sections.more (Section.sequence text known some z u ds) ss) = text ∷ identifiers ss

-- what a view lists of them, the first of which stands at a place
unfoldable pub shown : {e : Edition} {n : ℕ} {xs : List ℕ} → (at : ℕ) → Section e xs n → Shown.Section
shown at (Section.body {xs} d) = body_at at (length xs)
shown at (Section.sequence {d} {xs} text known some z u ds) = sequence_at at (length text) (length xs) d

unfoldable pub listed : {e : Edition} {n : ℕ} {xs : List ℕ} → (at : ℕ) → Sections e xs n → List Shown.Section
listed at Sections.none = []
listed at (Sections.more {xs} s ss) = shown at s ∷ listed (at + length xs) ss

-- ---- names

-- a text is one of a list
infix 50 ◌among◌
abbrev pub ◌among◌ : List ℕ → List (List ℕ) → Type 0
text among texts = Memᴰ text texts

-- no text of a list stands in it twice
pub data Differ : List (List ℕ) → Type 0 where
  none : Differ []
  more : {text : List ℕ} {texts : List (List ℕ)} → ¬ (text among texts) → Differ texts → Differ (text ∷ texts)

-- the names of elements in order, each with the names inside it, which a document of type 03 has and nothing else
pub data Names : Type 0 where
  none : Names
  name : (text : List ℕ) (inside rest : Names) → Names

-- those of a tree, level by level
unfoldable pub text_of : {xs : List ℕ} → ZeroEnded xs → List ℕ
text_of (ZeroEnded.ended text z u) = text

module _ {k : ℕ} (document : (xs : List ℕ) (n : ℕ) → Document k xs n → Names) where
  unfoldable pub names_inside : {t n : ℕ} {xs : List ℕ} → Value k t xs n → Names
  names_inside (Value.plain p) = none
  names_inside (Value.embedded {t} {n} {xs} m d) = elim (eqb t 0x03) [ true ↦ document xs n d | false ↦ none ]
  names_inside (Value.scoped m s d h) = none

  unfoldable pub element_names : {n : ℕ} {xs : List ℕ} → Elements k xs n → Names
  element_names Elements.none = none
  element_names (Elements.more (Element.element text value) es) = name (text_of text) (names_inside value) (element_names es)

unfoldable pub document_names : (k : ℕ) (xs : List ℕ) (n : ℕ) → Document k xs n → Names
document_names zero xs n d = elim d [ ]
document_names (suc k) xs n (Document.document es h) = element_names (document_names k) es

-- the names themselves, not those inside them
unfoldable pub top : Names → List (List ℕ)
top none = []
top (name text inside rest) = text ∷ top rest

-- a text leads from names to one: it is one of them; or it is one of them, a dot, and a text that leads on from the names inside that one. No name on the
-- way has a dot in it
pub data Leads : Names → List ℕ → Type 0 where
  there : {text : List ℕ} {inside rest : Names} → ¬ (0x2E ∈ text) → Leads (name text inside rest) text
  within : {text on : List ℕ} {inside rest : Names} → ¬ (0x2E ∈ text) → Leads inside on → Leads (name text inside rest) (text ++ 0x2E ∷ on)
  later : {text on : List ℕ} {inside rest : Names} → Leads rest on → Leads (name text inside rest) on

-- the names of each body among sections
unfoldable pub bodies : {e : Edition} {n : ℕ} {xs : List ℕ} → Sections e xs n → List Names
bodies Sections.none = []
bodies (Sections.more (Section.body {n} {xs} d) ss) = document_names max_levels xs n d ∷ bodies ss
bodies (Sections.more (Section.sequence text known some z u ds) ss) = bodies ss

-- ---- messages

-- the bytes s are a message for a relay of the edition e, and v is its view
pub record Message (e : Edition) (s : List ℕ) (v : View) : Type 0 where
  -- what it is made of: words of 32 bits, sections with their tree, and the names in its body
  pub request_id : ℕ
  pub response_to : ℕ
  pub flags : ℕ
  pub sections : List ℕ
  pub elements : ℕ
  pub tree : Sections e sections elements
  pub body : Names
  pub words : (request_id < 2 ^ 32) × (response_to < 2 ^ 32) × (flags < 2 ^ 32)
  -- its length counts all of its bytes, its opcode is 2013, and where bit 0 is set the checksum of all bytes before it ends it
  pub bytes : let m = le32 (length s) ++ le32 request_id ++ le32 response_to ++ le32 2013 ++ le32 flags ++ sections in s ≡ m ++ checksum flags m
  pub limit : length s ≤ max_length
  -- each bit of 0 to 15 that is set is known
  pub known : (i : ℕ) → i < 16 → T (bit i flags) → T (bit i e.bits)
  -- it has one body, and of sequences and elements no more than the limits
  pub single : bodies tree ≡ body ∷ []
  pub few : length (identifiers tree) ≤ max_sequences
  pub limited : elements ≤ max_elements
  -- the top-level names of the body and the identifiers all differ, and no identifier leads to a name in the body
  pub differ : Differ (identifiers tree ++ top body)
  pub apart : (text : List ℕ) → text among identifiers tree → ¬ Leads body text
  -- what it shows
  pub shows : v ≡ record {
    length = length s;
    request_id = signed request_id;
    response_to = signed response_to;
    flags = kept e.bits flags;
    entries = padded (listed 20 tree);
    elements = elements;
  }
