-- What a step of the loop over documents makes of the definitions, and that a run does not go by its turns.
-- Assumes nothing.
use Prim.Native.Nat.{ℕ, ◌+◌, ◌≤◌}
use mathlib.Core.Path.{◌≡◌, sym, ap, ◌∙◌}
use mathlib.Core.List.{List}
use native.Mathlib.Omega.{arith}
use lib.ListN.{length}
use Rattle.wire.specs.Outcome.{refused}
use Rattle.wire.specs.Walk.{Step, step, walk}
use Rattle.wire.proofs.Outcome.{ok_same, bound, go_on, halt}
use Rattle.wire.proofs.Walk.{Advances, walk_turns}
use Rattle.bson.specs.Document.{document_at, max_levels}
use Rattle.bson.proofs.Frame.{Framed, document_framed}
use Rattle.opmsg.specs.Sections.{Run, next_document}

abbrev pub run_of : ℕ → ℕ → Run
run_of documents elements = record { documents = documents; elements = elements }

module _ (at : ℕ) (xs : List ℕ) (count : ℕ) where
  -- a document that was passed is as long as it says, and one more of a run
  pub past_framed : {size more : ℕ} → step size more ≡ document_at max_levels at xs count → Framed xs size
  past_framed {size} {more} e = document_framed max_levels at xs count (record { size = size; state = more }) (sym e)

  pub next_past : {size more : ℕ} (number : ℕ) → step size more ≡ document_at max_levels at xs count → next_document at xs (run_of number count) ≡ step size (run_of (number + 1) more)
  unfolding next_document
  next_past {size} {more} number e = let one : 1 + number ≡ number + 1 = omega arith in go_on _ (sym e) ∙ ap (λ (n : ℕ). step size (run_of n more)) one

  pub next_refused : {n place : ℕ} (number : ℕ) → refused n place ≡ document_at max_levels at xs count → next_document at xs (run_of number count) ≡ refused n place
  unfolding next_document
  next_refused number e = halt _ (sym e)

document_advances : Advances next_document
unfolding next_document
document_advances at xs run one h =
    bound _ _ h λ d e f.
    omega (arith, (document_framed max_levels at xs run.elements d e).low, ap (λ (s : Step Run). s.size) (ok_same f))

-- a run of documents does not go by the turns
pub run_turns : (m n at : ℕ) (xs : List ℕ) (run : Run) → length xs ≤ m → length xs ≤ n → walk next_document m at xs run ≡ walk next_document n at xs run
run_turns = walk_turns next_document document_advances
