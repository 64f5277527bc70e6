-- `listing::stream::next` meets its contract: each way out has its tests, and how far it reaches is a law of what comes next.
-- Assumes nothing.
use mathlib.Core.Path.{◌≡◌}
use mathlib.Core.Bool.{Bool}
use Prim.Native.Nat.{ℕ}
use mathlib.Core.List.{List}
use lib.ListN.{length}
use native.Mathlib.Omega.{arith}
use borrow.Author.Rules.{rules}
use borrow.Author.Tests.{eq-eqb, ne_eqb}
use Rattle.listing.specs.Next.{next}
use Rattle.listing.specs.Inner.{StepWithin}
use Rattle.listing.specs.declared.Step.{Step}
use Rattle.listing.specs.declared.Step.TheVariants.{More, End}
use Rattle.listing.proofs.Next.{next_within}
use Rattle.listing.proofs.stream.next.Statement.{statement}
use Rattle.listing.proofs.stream.next.Tie as tie

both : (ended : Bool) (s : List ℕ) (r : Step) → r ≡ next ended s → (r ≡ next ended s) × StepWithin (length s) r
both ended s r e = (e, rw e (next_within ended s))

returns : tie.Need-returns-then-short
unfolding next
returns c =
    let p2 = c in
    let a = p2.args in
    both a.ended a.s.now More (rw (p2.if-not-ended.true, next, ← c.short.ensures, c.if-short.true))

returns-2 : tie.Need-returns-then-not-ended
unfolding next
returns-2 c =
    let p2 = c in
    let p3 = c in
    let a = p3.args in
    both a.ended a.s.now c.judge.result (rw (p3.if-not-ended.true, next, ← p2.short.ensures, c.if-short.false, ← c.judge.ensures))

pub next_spec : {M : Type 1} → statement M
unfolding next
next_spec =
    tie.close
    (tie.spec
    (λ c κs. search rules)
    returns
    (λ c κs. search rules)
    returns-2
    (λ c.
    let none : length c.args.s.now ≡ 0 = omega arith in
    both c.args.ended c.args.s.now End (rw (c.if-not-ended.false, next, eq-eqb _ _ none)))
    (λ c κs. search rules)
    (λ c.
    let some : length c.args.s.now ≡ 0 → ⊥ = λ e. omega arith in
    both c.args.ended c.args.s.now c.judge-2.result (rw (c.if-not-ended.false, next, ne_eqb _ _ some, ← c.judge-2.ensures))))
