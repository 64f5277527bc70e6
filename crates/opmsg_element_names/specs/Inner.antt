-- The names of elements, an order of texts, and the first name that equals an earlier one.
-- Assumes nothing: these are definitions.
use Rattle.std.specs.Prelude.{ℕ, zero, suc, ◌+◌, ◌-◌, ◌<◌, ◌≤◌, List, ◌≡◌, length, get_or, drop}
use Rattle.wire.specs.Bytes.{word, until_zero}
use Rattle.bson_elements.specs.Element.{element_size}
use Rattle.opmsg.specs.Names.{name_text}
use Rattle.std.specs.declared.cmp.Ordering.{Ordering}

-- ---- names

-- a text has no zero byte
abbrev pub WithoutZero : List ℕ → Type 0
WithoutZero t = until_zero t ≡ length t

-- the name of the element at a place of xs
abbrev pub text_at : List ℕ → ℕ → List ℕ
text_at xs p = name_text (drop p xs)

-- the number that the last four bytes of a text hold
unfoldable pub last_word : List ℕ → ℕ
last_word t = word (drop (length t - 4) t)

-- the element at a place of xs was read: it takes some bytes, and ends within xs
abbrev pub Read : List ℕ → ℕ → Type 0
Read xs p = (0 < element_size (drop p xs)) × (element_size (drop p xs) ≤ length (drop p xs))

-- ---- an order of texts: by the first byte at which they differ, where a text that ends counts as a zero

abbrev pub key : List ℕ → ℕ → ℕ
key a i = get_or a i 0

pub record Less (a b : List ℕ) : Type 0 where
  pub place : ℕ
  pub same : (i : ℕ) → i < place → key a i ≡ key b i
  pub below : key a place < key b place

abbrev pub Ordered : List ℕ → List ℕ → Ordering → Type 0
Ordered a b Ordering.Less = Less a b
Ordered a b Ordering.Equal = a ≡ b
Ordered a b Ordering.Greater = Less b a

-- ---- which name is the first that stands there again

-- the place of element k, and its name
unfoldable pub start_of : List ℕ → ℕ → ℕ
start_of xs zero = 0
start_of xs (suc k) = start_of xs k + element_size (drop (start_of xs k) xs)

abbrev pub name_of : List ℕ → ℕ → List ℕ
name_of xs k = text_at xs (start_of xs k)

-- the element at place p has the name of an earlier one
pub record Again (xs : List ℕ) (p : ℕ) : Type 0 where
  pub later : ℕ
  pub earlier : ℕ
  pub is : p ≡ start_of xs later
  pub order : earlier < later
  pub same : name_of xs earlier ≡ name_of xs later

-- the first place whose name is an earlier one's, or the end
pub record First (xs : List ℕ) (bound : ℕ) : Type 0 where
  pub within : bound ≤ length xs
  pub clear : (k q : ℕ) → k < q → start_of xs q < bound → name_of xs k ≡ name_of xs q → ⊥
  pub again : bound < length xs → Again xs bound
