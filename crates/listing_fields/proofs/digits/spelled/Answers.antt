-- With the digit of this turn, and what that spells at least.
use Rattle.std.proofs.Common.{ℕ, ◌≡◌, ◌≤◌, ◌<◌, ◌+◌, ◌-◌, ◌*◌, ◌∙◌, List, length, get_or, drop, arith}
use Rattle.listing_fields.specs.Numbers.{spelled}
use Rattle.listing_fields.proofs.Spelling.{spelled_next, spelled_end, spelled_more}
use Rattle.listing_fields.proofs.digits.spelled.Goals as goal

least : (n : ℕ) (f : List ℕ) (i : ℕ) → i < length f → spelled 0 f ≡ spelled n (drop i f) → 10 * n + (get_or f i 0 - 48) ≤ spelled 0 f
least n f i h e = omega (arith, e, spelled_next n f i h, spelled_more (10 * n + (get_or f i 0 - 48)) (drop (i + 1) f))

pub returns-in_err-checked_mul : goal.returns-in_err-checked_mul
returns-in_err-checked_mul c =
    let l = c.loop-x in
    rw c.from_residual.ensures (omega (arith, least l.n c.args.f.now l.x-index c.loop-x-test.true l.invariant, c.in_err-checked_mul.ensures))

pub returns-in_err-n : goal.returns-in_err-n
returns-in_err-n c =
    let l = c.loop-x in
    rw c.from_residual-in_err-n.ensures (omega (arith, least l.n c.args.f.now l.x-index c.loop-x-test.true l.invariant, c.in_err-n.ensures, c.in_ok-checked_mul.ensures, c.digit.ensures))

pub loop-x-preserved : goal.loop-x-preserved
loop-x-preserved c =
    let l = c.loop-x in
    let e : c.in_ok-n.n ≡ 10 * l.n + (get_or c.args.f.now l.x-index 0 - 48) = omega (arith, c.in_ok-n.ensures, c.in_ok-checked_mul.ensures, c.digit.ensures) in
    rw e (l.invariant ∙ spelled_next l.n c.args.f.now l.x-index c.loop-x-test.true)

pub returns : goal.returns
returns c = omega (arith, c.loop-x.invariant, spelled_end c.loop-x.n c.args.f.now c.loop-x.x-index c.loop-x-test.false)
