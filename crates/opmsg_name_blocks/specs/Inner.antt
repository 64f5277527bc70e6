-- Tables of places that are sorted by the names there.
-- Assumes nothing: these are definitions.
use Rattle.std.specs.Prelude.{ℕ, ◌+◌, ◌<◌, ◌≤◌, List, ◌≡◌, length, get_or, Option, None, Some}
use Rattle.opmsg_element_names.specs.Inner.{Less, text_at, start_of, name_of, Again}

-- the name at place j of a table
abbrev pub entry : List ℕ → List ℕ → ℕ → List ℕ
entry xs table j = text_at xs (get_or table j 0)

-- the first m entries of a table are places in xs, ascending by the names there
pub record Sorted (xs table : List ℕ) (m : ℕ) : Type 0 where
  pub few : m ≤ length table
  pub inside : (j : ℕ) → j < m → get_or table j 0 < length xs
  pub ascending : (i j : ℕ) → i < j → j < m → Less (entry xs table i) (entry xs table j)

-- where a text is new: its place among the entries
pub record Between (xs table : List ℕ) (m : ℕ) (text : List ℕ) (i : ℕ) : Type 0 where
  pub within : i ≤ m
  pub under : (j : ℕ) → j < i → Less (entry xs table j) text
  pub over : (j : ℕ) → i ≤ j → j < m → Less text (entry xs table j)

-- a text is one of the entries
pub record Entered (xs table : List ℕ) (m : ℕ) (text : List ℕ) : Type 0 where
  pub at : ℕ
  pub within : at < m
  pub same : text ≡ entry xs table at

-- a text was looked up: it is there, or where it belongs
abbrev pub Looked : List ℕ → List ℕ → ℕ → List ℕ → Option ℕ → Type 0
Looked xs table m text None = Entered xs table m text
Looked xs table m text (Some i) = Between xs table m text i

-- a table with p at place i, and those of the first m entries that stood from there on one place further
pub record Inserted (old : List ℕ) (m i p : ℕ) (new : List ℕ) : Type 0 where
  pub under : (k : ℕ) → k < i → get_or new k 0 ≡ get_or old k 0
  pub there : get_or new i 0 ≡ p
  pub over : (k : ℕ) → i ≤ k → k < m → get_or new (k + 1) 0 ≡ get_or old k 0

-- the elements before place s have names that differ from all later ones before the bound; what stands at the bound has an earlier one's name
pub record Cleared (xs : List ℕ) (s bound : ℕ) : Type 0 where
  pub passed : ℕ
  pub start : s ≡ start_of xs passed
  pub within : bound ≤ length xs
  pub clear : (k q : ℕ) → k < passed → k < q → start_of xs q < bound → name_of xs k ≡ name_of xs q → ⊥
  pub again : bound < length xs → Again xs bound
