-- `wire::until_far_zero` meets its contract: the search passes each chunk of four bytes without a zero, and goes on from there.
-- Assumes nothing.
use Rattle.std.proofs.Common.{rules, ◌≡◌, ◌+◌, ◌*◌, ◌/◌, length}
use Rattle.std.specs.Simd.{first_chunks}
use Rattle.std.proofs.lemmas.Iterator.{YieldsList-from_slice}
use Rattle.std.proofs.lemmas.Iterator.Search.{position_from_yields_List}
use native.Mathlib.Omega.{arith}
use Rattle.wire.specs.Bytes.{until_zero}
use Rattle.wire.proofs.Bytes.{until_le}
use Rattle.wire.proofs.Parts.{rest_part}
use Rattle.wire.proofs.Search.{has_zero, Passed, clear_passed, first_or_length}
use Rattle.wire.proofs.until_far_zero.Goals as goal

-- the chunks before the first with a zero are passed
passed : (c : goal.After-until_zero) → Passed (c.unwrap_or-passed.result * 4) c.args.s.now
passed c =
    let s = c.args.s.now in
    let k = length s / 4 in
    let found =
    position_from_yields_List has_zero _ _ c.position-clear.result c.position-clear.ensures.ran
    (YieldsList-from_slice (first_chunks 4 k s) cc) (λ x b q k. search rules) in
    let is = first_or_length has_zero (first_chunks 4 k s) c.position-clear.result c.unwrap_or-passed.result (cc) found in
    rw is (clear_passed 4 k s (omega arith))

total : (c : goal.After-until_zero) → c.unwrap_or-passed.result * 4 + c.until_zero.result ≡ until_zero c.args.s.now
total c = omega (arith, rw rest_part at c.until_zero.ensures, passed c)

pub returns : goal.returns
returns c = total c

pub overflow_add-result : goal.overflow_add-result
overflow_add-result c = omega (arith, total c, until_le c.args.s.now)
