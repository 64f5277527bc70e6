-- `crc32c_refresh::operator::compose` meets its contract: number by number.
-- Assumes nothing.
use mathlib.Core.Path.{ap, ◌∙◌}
use Prim.Native.Nat.{ℕ}
use mathlib.Core.List.{List}
use native.Mathlib.Omega.{arith}
use Rattle.std.proofs.Common.{◌≡◌, length, rules}
use lib.ListN.{get_or}
use Rattle.crc32c_refresh.specs.Operator.{apply}
use Rattle.crc32c_refresh.proofs.Turns.{compose_turn, compose_end, next_made}
use Rattle.crc32c_refresh.proofs.operator.compose.Goals as goal

pub loop-image-preserved : goal.loop-image-preserved
loop-image-preserved c =
    let m = c.args.m in
    let k = c.args.k in
    let l = c.loop-image in
    let long : length c.args.k ≡ 32 = search rules in
    let i = l.image-index in
    let next = ap (λ (r : List ℕ). get_or r i 0) l.invariant ∙ next_made m k i (omega (arith, long)) in
    compose_turn m k l.image-items i _ (omega (arith, long)) l.invariant (c.apply.ensures ∙ ap (apply m) next)

pub returns : goal.returns
returns c =
    let l = c.loop-image in
    let long : length c.args.k ≡ 32 = search rules in
    l.invariant ∙ compose_end c.args.m c.args.k l.image-index (omega (arith, long))
