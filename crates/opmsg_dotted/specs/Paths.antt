-- What it is that a text leads from elements to a name, and that reading finds just these texts.
-- Assumes nothing: these are definitions and a statement.
use Rattle.std.specs.Prelude.{ℕ, ◌-◌, ◌<◌, true, List, ◌∷◌, ◌++◌, ◌≡◌}
use lib.ListN.{get_or, take, drop}
use Rattle.wire.specs.Outcome.{ok}
use Rattle.wire.specs.Walk.{Step}
use Rattle.bson_elements.specs.Element.{element_size}
use Rattle.bson.specs.Document.{max_levels, document_at}
use Rattle.opmsg.specs.Names.{name_text}
use Rattle.opmsg.specs.Dotted.{elements_within, found}

-- the bytes ys begin with one of the elements xs
pub data ElementOf : (ys xs : List ℕ) → Type 0 where
  first : {xs : List ℕ} → 0 < lib.ListN.length xs → ElementOf xs xs
  later : {ys xs : List ℕ} → 0 < lib.ListN.length xs → ElementOf ys (drop (element_size xs) xs) → ElementOf ys xs

-- no byte of a name is a dot
abbrev pub WithoutDot : List ℕ → Type 0
WithoutDot name = (i : ℕ) → i < lib.ListN.length name → get_or name i 0 ≡ 0x2E → ⊥

-- a text leads from the elements xs to a name: it is the name of one of them, or such a name, a dot, and what leads on from the elements of
-- that one's document
pub data Leads : (xs text : List ℕ) → Type 0 where
  there : {xs ys : List ℕ} → ElementOf ys xs → WithoutDot (name_text ys) → Leads xs (name_text ys)
  within : {xs ys tail : List ℕ} → ElementOf ys xs → WithoutDot (name_text ys) → get_or ys 0 0 ≡ 0x03 → Leads (elements_within ys) tail → Leads xs (name_text ys ++ (0x2E ∷ tail))

-- of a document that is read, a text is found exactly where it leads to a name
pub record FoundLeads : Type 0 where
  pub sound : (at : ℕ) (s : List ℕ) (count : ℕ) (r : Step ℕ) → document_at max_levels at s count ≡ ok r → (text : List ℕ)
      → found (take (r.size - 5) (drop 4 s)) text ≡ true → Leads (take (r.size - 5) (drop 4 s)) text
  pub complete : (at : ℕ) (s : List ℕ) (count : ℕ) (r : Step ℕ) → document_at max_levels at s count ≡ ok r → (text : List ℕ)
      → Leads (take (r.size - 5) (drop 4 s)) text → found (take (r.size - 5) (drop 4 s)) text ≡ true
