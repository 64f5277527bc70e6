-- Laws of what comes next: where a message lies, how few bytes are short of one, and how long one is that is passed over.
-- Assumes nothing.
use Prim.Native.Nat.{ℕ, ◌<◌, ◌≤◌}
use mathlib.Core.Bool.{Bool, true, false, not, ◌&&◌, false≢true}
use mathlib.Core.Path.{◌≡◌, refl, ap}
use mathlib.Core.List.{List}
use native.Mathlib.Omega.{arith}
use lib.ListN.{length}
use lib.Dec.{ltb, leb, eqb}
use borrow.Author.Tests.{ltb-true, ltb-false, leb-true, le-leb}
use Rattle.wire.specs.Outcome.{Outcome, ok, refused}
use Rattle.wire.specs.Bytes.{under}
use Rattle.opmsg.specs.Flags.{house}
use Rattle.opmsg.specs.Layout.{max_length, message_length}
use Rattle.opmsg.specs.Read.{read}
use Rattle.opmsg.specs.View.{view_of}
use Rattle.opmsg.specs.declared.Edition.{Edition}
use Rattle.opmsg.specs.declared.View.{View}
use Rattle.opmsg.proofs.Accepted.{reads}
use Rattle.listing.specs.Next.{buffer_length, summary_of, short, long, step_of, judge, next}
use Rattle.listing.specs.Inner.{StepWithin}
use Rattle.listing.specs.declared.Step.TheVariants.{Message}

all_three : (a b c : Bool) → (a && b && c) ≡ true → (a ≡ true) × (b ≡ true) × (c ≡ true)
all_three true true true h = (refl, refl, refl)
all_three true true false h = absurd (false≢true h)
all_three true false c h = absurd (false≢true h)
all_three false b c h = absurd (false≢true h)

-- bytes that are short of a message are fewer than the program can hold
pub short_few : (s : List ℕ) → short s ≡ true → length s < buffer_length
unfolding short buffer_length
short_few s h = go (ltb (length s) 16) refl h
  where
    go : (b : Bool) → ltb (length s) 16 ≡ b
        → ◌≡◌ {A = Bool} (elim b [ true ↦ true | false ↦ not (under 16 (message_length s)) && leb (message_length s) buffer_length && ltb (length s) (message_length s) ]) true
        → length s < buffer_length
    go true e h = omega (arith, ltb-true (length s) 16 e)
    go false e h =
        let l = all_three (not (under 16 (message_length s))) (leb (message_length s) buffer_length) (ltb (length s) (message_length s)) h in
        omega (arith, leb-true (message_length s) buffer_length l.1, ltb-true (length s) (message_length s) l.2)

-- a message that is passed over is longer than the program can hold
pub long_far : (s : List ℕ) → long s ≡ true → (buffer_length < message_length s) × (message_length s ≤ max_length)
unfolding long
long_far s h =
    let l = all_three (leb 16 (length s)) (leb (message_length s) max_length) (ltb buffer_length (message_length s)) h in
    (ltb-true buffer_length (message_length s) l.2, leb-true (message_length s) max_length l.1)

not_long : (s : List ℕ) → long s ≡ false → 16 ≤ length s → message_length s ≤ max_length → message_length s ≤ buffer_length
unfolding long
not_long s h head most = ltb-false buffer_length (message_length s) (rw (le-leb 16 (length s) head, le-leb (message_length s) max_length most) at h)

-- an accepted message that is not passed over lies within the bytes at hand
pub within_bytes : (e : Edition) (s : List ℕ) (v : View) → long s ≡ false → read e s ≡ ok v → StepWithin (length s) (Message (summary_of v))
unfolding view_of
within_bytes e s v l h =
    let r = reads h in
    let n : message_length s ≡ v.length = ap (λ (x : View). x.length) r.view in
    let most = not_long s l (omega (arith, r.sound.least, r.sound.whole)) r.sound.limit in
    (omega (arith, n, r.sound.least), omega (arith, n, r.sound.whole), omega (arith, n))

judge_within : (s : List ℕ) → StepWithin (length s) (judge s)
unfolding judge step_of
judge_within s = go (long s) refl
  where
    of : (o : Outcome View) → read house s ≡ o → long s ≡ false → StepWithin (length s) (step_of o)
    of (ok v) e l = within_bytes house s v l e
    of (refused number place) e l = tt

    go : (b : Bool) → long s ≡ b → StepWithin (length s) (judge s)
    go true e = rw (judge, e) (long_far s e)
    go false e = rw (judge, e) (of (read house s) refl e)

-- what comes next reaches no farther than it should
pub next_within : (ended : Bool) (s : List ℕ) → StepWithin (length s) (next ended s)
unfolding next
next_within false s = go (short s) refl
  where
    go : (b : Bool) → short s ≡ b → StepWithin (length s) (next false s)
    go true e = rw (next, e) (short_few s e)
    go false e = rw (next, e) (judge_within s)
next_within true s = go (eqb (length s) 0) refl
  where
    go : (b : Bool) → eqb (length s) 0 ≡ b → StepWithin (length s) (next true s)
    go true e = rw (next, e) tt
    go false e = rw (next, e) (judge_within s)
