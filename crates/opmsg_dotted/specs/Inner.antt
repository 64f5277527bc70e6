-- What an answer of a function stands for.
-- Assumes nothing: this is a definition.
use Rattle.std.specs.Prelude.{ℕ, ◌<◌, List, ◌≡◌, get_or}

-- none of the first n bytes of xs is a dot
abbrev pub Undotted : (n : ℕ) → List ℕ → Type 0
Undotted n xs = (i : ℕ) → i < n → get_or xs i 0 ≡ 0x2E → ⊥
