-- `crc32c_refresh::operator::apply` meets its contract.
-- Assumes nothing.
use mathlib.Core.Path.{sym, ◌∙◌}
use native.Mathlib.Omega.{arith}
use Rattle.std.proofs.Common.{◌≡◌, length, rules}
use Rattle.crc32c_refresh.proofs.Turns.{apply_turn, apply_end}
use Rattle.crc32c_refresh.proofs.operator.apply.Goals as goal

pub loop-image-preserved : goal.loop-image-preserved
loop-image-preserved c =
    let l = c.loop-image in
    let long : length c.args.m ≡ 32 = search rules in
    apply_turn c.args.m l.r l.rest l.image-index _ (omega (arith, long)) c.where_odd-r.ensures ∙ l.invariant

pub returns : goal.returns
returns c =
    let l = c.loop-image in
    let long : length c.args.m ≡ 32 = search rules in
    sym (apply_end c.args.m l.r l.rest l.image-index (omega (arith, long))) ∙ l.invariant
