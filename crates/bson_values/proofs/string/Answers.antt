-- What follows the length has its tests; a fault of the length is that of the whole.
use Rattle.std.proofs.Common.{◌≡◌, ℕ, ◌+◌, ◌-◌, ◌≤◌, List, length, take, drop, sym, ap, ◌∙◌, arith}
use Rattle.std.proofs.lemmas.Result.{err_from_is_err_and}
use lib.ListN.{length-drop}
use lib.Seq.{length-take-le}
use borrow.Author.Tests.{lt-ltb, le-ltb, eq-eqb, ne_eqb}
use Rattle.wire.specs.Outcome.{refused, refuse, ◌>>=◌}
use Rattle.wire.proofs.Outcome.{go_on}
use Rattle.utf8.specs.Text.{well_formed, text_at}
use Rattle.bson_values.specs.Value.{string}
use Rattle.bson_values.specs.Inner.{counted}
use Rattle.wire.specs.Outcome.{ok}
use Rattle.bson_values.proofs.Parts.{passed_on, string_of, string_is}
use Rattle.bson_values.proofs.string.Goals as goal
use Rattle.bson_values.proofs.string.Goals.{then-s-last-via-then-s-last, then-s-last-via-else-s-last+then-s-last-ne0}

-- the rest, where the length was read
rest : (v at n : ℕ) (xs : List ℕ) → ok n ≡ counted v 1 xs → string_of v at xs n ≡ string v at xs
rest v at n xs e = sym (go_on (string_of v at xs) (sym e)) ∙ string_is v at xs

-- the text that was looked at, in the part `&s[4..3 + n]`
record Looked (n r : ℕ) (xs : List ℕ) : Type 0 where
  is : r ≡ well_formed (take (n - 1) (drop 4 xs))
  long : length (take (n - 1) (drop 4 xs)) ≡ n - 1

looked : (n r : ℕ) (xs : List ℕ) → 1 ≤ n → 4 + n ≤ length xs → r ≡ well_formed (take (3 + n - 4) (drop 4 xs)) → Looked n r xs
looked n r xs l h e =
    let size : 3 + n - 4 ≡ n - 1 = omega arith in
    record { is = e ∙ ap (λ (k : ℕ). well_formed (take k (drop 4 xs))) size; long = length-take-le (n - 1) (drop 4 xs) (omega (arith, length-drop 4 xs)) }

pub returns-in_err-n-clause-is : goal.returns-in_err-n-clause-is
returns-in_err-n-clause-is c =
    let p = err_from_is_err_and c.from_residual.result c.from_residual.ensures.1 in
    rw (p.1, p.2) (λ v at. passed_on _ v at _ _ (c.in_err-n.ensures.is v at) ∙ string_is v at _)

pub returns-in_err-n-clause-inside : goal.returns-in_err-n-clause-inside
returns-in_err-n-clause-inside c =
    let p = err_from_is_err_and c.from_residual.result c.from_residual.ensures.1 in
    rw (p.1, p.2, c.in_err-n.ensures.inside) tt

pub returns-then-s-last-clause-is : goal.returns-then-s-last-clause-is
unfolding ◌>>=◌ refuse
returns-then-s-last-clause-is c v at =
    let s = c.args.s.now in
    let n = c.in_ok-n.n in
    let done = rest v at n s (c.in_ok-n.ensures.is v at) in
    elim c.then-s-last.branch [
      | then-s-last-via-then-s-last w ↦ rw (lt-ltb (length s) (4 + n) (omega arith)) at done
      | then-s-last-via-else-s-last+then-s-last-ne0 w ↦ rw (le-ltb (length s) (4 + n) (omega arith), ne_eqb _ 0 w.if-s-last-ne0.true) at done
    ]

pub returns-then-text-n-clause-is : goal.returns-then-text-n-clause-is
unfolding ◌>>=◌ refuse text_at
returns-then-text-n-clause-is c v at =
    let s = c.args.s.now in
    let n = c.in_ok-n.n in
    let l = looked n _ s (omega (arith, c.in_ok-n.ensures.inside)) (omega arith) c.well_formed-text.ensures in
    let done = rest v at n s (c.in_ok-n.ensures.is v at) in
    let place : at + (4 + c.well_formed-text.result) ≡ at + 4 + c.well_formed-text.result = omega arith in
    ap (refused 27) place ∙ rw (le-ltb (length s) (4 + n) (omega arith), eq-eqb _ 0 c.if-s-last-ne0.false, ← l.is, l.long, lt-ltb _ _ c.if-text-n.true) at done

pub returns-clause-is : goal.returns-clause-is
unfolding ◌>>=◌ refuse text_at
returns-clause-is c v at =
    let s = c.args.s.now in
    let n = c.in_ok-n.n in
    let l = looked n _ s (omega (arith, c.in_ok-n.ensures.inside)) (omega arith) c.well_formed-text.ensures in
    let done = rest v at n s (c.in_ok-n.ensures.is v at) in
    rw (le-ltb (length s) (4 + n) (omega arith), eq-eqb _ 0 c.if-s-last-ne0.false, ← l.is, l.long, le-ltb _ _ c.if-text-n.false) at done
