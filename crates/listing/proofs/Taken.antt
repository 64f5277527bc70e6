-- Laws of turns: a line that is empty, and how far a turn goes.
-- Assumes nothing.
use Prim.Native.Nat.{ℕ, ◌+◌, ◌-◌, ◌<◌, ◌≤◌}
use mathlib.Core.Bool.{Bool, true, false}
use mathlib.Core.Path.{◌≡◌, refl}
use mathlib.Core.List.{List, []}
use native.Mathlib.Omega.{arith}
use lib.ListN.{length}
use lib.Dec.{eqb}
use borrow.Author.Tests.{eqb-true}
use Rattle.io.specs.Counts.{IsPrefixLen}
use Rattle.listing_lines.specs.Written.{TextWritten}
use Rattle.listing_lines.specs.Lines.{big_line, bad_line}
use Rattle.listing.specs.Next.{buffer_length, next}
use Rattle.listing.specs.Run.{Turned, behind, passing, over, stepped, passed, turn}
use Rattle.listing.specs.Inner.{StepWithin}
use Rattle.listing.specs.declared.Run.{Run}
use Rattle.listing.specs.declared.Step.{Step}
use Rattle.listing.specs.declared.Step.TheVariants.{Message, Big, Bad, More, End}
use Rattle.listing.proofs.Next.{next_within}

-- no line
pub nothing_written : (old : List ℕ) → TextWritten [] old old 0 × IsPrefixLen 0 old
nothing_written old = (record { is = refl; size = refl }, (omega arith, refl))

-- a turn over n bytes at hand: it uses no more of them, asks for more only where there is room, and goes on by what it used
pub record Forth (r : Run) (n : ℕ) (t : Turned) : Type 0 where
  pub fits : t.used ≤ n
  pub room : t.more ≡ true → n - t.used < buffer_length
  pub inside : t.run.left ≤ t.run.length
  pub offset : t.run.offset + t.run.length + r.left ≤ r.offset + r.length + t.run.left + t.used
  pub messages : t.run.messages ≤ r.messages + 1

never : {P : Type 0} → false ≡ true → P
never e = let z : ◌≡◌ {A = ℕ} 0 1 = cc in absurd (omega arith)

stepped_forth : (r : Run) (n : ℕ) (x : Step) → r.left ≡ 0 → StepWithin n x → Forth r n (stepped r x)
unfolding stepped
stepped_forth r n (Message m) z w = record { fits = w.1; room = never; inside = omega arith; offset = omega arith; messages = omega arith }
stepped_forth r n (Big m) z w = record { fits = omega arith; room = never; inside = omega arith; offset = omega arith; messages = omega arith }
stepped_forth r n (Bad number place) z w = record { fits = omega arith; room = never; inside = omega arith; offset = omega arith; messages = omega arith }
stepped_forth r n More z w = record { fits = omega arith; room = λ _. omega (arith, w); inside = omega arith; offset = omega arith; messages = omega arith }
stepped_forth r n End z w = record { fits = omega arith; room = never; inside = omega arith; offset = omega arith; messages = omega arith }

passed_forth : (r : Run) (ended : Bool) (n : ℕ) → r.left ≤ r.length → Forth r n (passed r ended n)
unfolding passed buffer_length
passed_forth r ended n l = go (eqb (r.left - n) 0) refl ended
  where
    go : (b : Bool) → eqb (r.left - n) 0 ≡ b → (ended : Bool)
        → Forth r n (elim b [
          | true ↦ record { run = behind r.length r; used = r.left; line = big_line r.offset r.length; more = false }
          | false ↦ elim ended [
            | true ↦ record { run = over r; used = n; line = bad_line r.offset 3 0; more = false }
            | false ↦ record { run = passing r.length (r.left - n) r; used = n; line = []; more = true }
          ]
        ])
    go true e ended = let z = eqb-true (r.left - n) 0 e in record { fits = omega arith; room = never; inside = omega arith; offset = omega arith; messages = omega arith }
    go false e true = record { fits = omega arith; room = never; inside = omega arith; offset = omega arith; messages = omega arith }
    go false e false = record { fits = omega arith; room = λ _. omega arith; inside = omega arith; offset = omega arith; messages = omega arith }

pub turn_forth : (r : Run) (ended : Bool) (s : List ℕ) → r.left ≤ r.length → Forth r (length s) (turn r ended s)
unfolding turn
turn_forth r ended s l = go (eqb r.left 0) refl
  where
    go : (b : Bool) → eqb r.left 0 ≡ b → Forth r (length s) (elim b [ true ↦ stepped r (next ended s) | false ↦ passed r ended (length s) ])
    go true e = stepped_forth r (length s) (next ended s) (eqb-true r.left 0 e) (next_within ended s)
    go false e = passed_forth r ended (length s) l
