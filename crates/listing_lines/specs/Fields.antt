-- Lines of fields, as document 01 has them: a tab between two fields, and a newline behind the last.
-- Assumes nothing: these are definitions.
use Rattle.std.specs.Prelude.{ℕ, List, [], ◌∷◌, ◌++◌}

abbrev pub tab : ℕ
tab = 9

abbrev pub newline : ℕ
newline = 10

-- fields parted by tabs, and a newline
unfoldable pub line : List (List ℕ) → List ℕ
line [] = newline ∷ []
line (f ∷ []) = f ++ newline ∷ []
line (f ∷ g ∷ fs) = f ++ tab ∷ line (g ∷ fs)
