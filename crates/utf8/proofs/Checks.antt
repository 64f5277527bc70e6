-- Text in a row of checks: it and what comes after it give a value exactly where the text is UTF-8 and the rest gives it.
-- Assumes nothing.
use Prim.Native.Nat.{ℕ}
use mathlib.Core.Path.{◌≡◌, ◌∙◌}
use mathlib.Core.Logic.{◌↔◌}
use mathlib.Core.List.{List}
use Rattle.wire.specs.Outcome.{Outcome, ok, ◌>>=◌}
use Rattle.wire.proofs.Outcome.{bound, go_on}
use Rattle.utf8.specs.Utf8.{Utf8}
use Rattle.utf8.specs.Text.{text_at}
use Rattle.utf8.proofs.Longest.{text_is_utf8}

pub check_text : {A : Type 0} (f : Unit {0} → Outcome A) (r : A) (at : ℕ) (xs : List ℕ) → ((text_at at xs >>= f) ≡ ok r) ↔ (Utf8 xs × (f tt ≡ ok r))
check_text f r at xs = (λ e. bound _ _ e λ u eu fu. ((text_is_utf8.accepted at xs).0 eu, fu), λ p. go_on f ((text_is_utf8.accepted at xs).1 p.0) ∙ p.1)
