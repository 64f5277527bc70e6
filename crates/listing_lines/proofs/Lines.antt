-- Laws of lines: fields that are written one behind the other, each with the byte behind it.
-- Assumes nothing.
use Prim.Native.Nat.{ℕ}
use mathlib.Core.Path.{◌≡◌}
use mathlib.Core.List.{List, [], ◌∷◌, ◌++◌, append_assoc}
use Rattle.listing_lines.specs.Fields.{tab, newline, line}

pub two_fields : (a b : List ℕ) → a ++ tab ∷ [] ++ (b ++ newline ∷ []) ≡ line (a ∷ b ∷ [])
unfolding line
two_fields a b = simp append_assoc

pub three_fields : (a b c : List ℕ) → a ++ tab ∷ [] ++ (b ++ tab ∷ []) ++ (c ++ newline ∷ []) ≡ line (a ∷ b ∷ c ∷ [])
unfolding line
three_fields a b c = simp append_assoc

pub four_fields : (a b c d : List ℕ) → a ++ tab ∷ [] ++ (b ++ tab ∷ []) ++ (c ++ tab ∷ []) ++ (d ++ newline ∷ []) ≡ line (a ∷ b ∷ c ∷ d ∷ [])
unfolding line
four_fields a b c d = simp append_assoc

pub eight_fields : (a b c d e f g h : List ℕ)
    → a ++ tab ∷ [] ++ (b ++ tab ∷ []) ++ (c ++ tab ∷ []) ++ (d ++ tab ∷ []) ++ (e ++ tab ∷ []) ++ (f ++ tab ∷ []) ++ (g ++ tab ∷ []) ++ (h ++ newline ∷ [])
    ≡ line (a ∷ b ∷ c ∷ d ∷ e ∷ f ∷ g ∷ h ∷ [])
unfolding line
eight_fields a b c d e f g h = simp append_assoc
