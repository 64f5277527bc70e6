-- `crc32c::parts::far` meets its contract, by the law of a turn.
-- Assumes nothing.
use Rattle.std.proofs.Common.{◌-◌}
use native.Mathlib.Omega.{arith}
use Rattle.crc32c.proofs.Words.{top_start, top_turn}
use Rattle.crc32c.proofs.parts.far.Goals as goal

pub loop-k-init : goal.loop-k-init
loop-k-init c = top_start 64 c.args.near c.args.x c.ranges.x.fits

pub loop-k-preserved : goal.loop-k-preserved
loop-k-preserved c =
    let l = c.loop-k in
    top_turn 64 c.args.near l.r c.args.x _ _ (l.k - 1) l.k (omega arith) c.place.ensures c.far-r.ensures l.invariant
