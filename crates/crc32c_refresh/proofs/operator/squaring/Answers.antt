-- `crc32c_refresh::operator::squaring` meets its contract.
-- Assumes nothing.
use mathlib.Core.Path.{refl}
use native.Mathlib.Omega.{arith}
use Rattle.crc32c_refresh.proofs.Turns.{squaring_turn, squaring_end}
use Rattle.crc32c_refresh.proofs.operator.squaring.Goals as goal

pub loop-left-init : goal.loop-left-init
loop-left-init c = record { turns = 64; enough = c.ranges.n.fits; rest = refl }

pub loop-left-preserved : goal.loop-left-preserved
loop-left-preserved c =
    let l = c.loop-left in
    squaring_turn _ l.left _ _ _ _ l.invariant (omega arith) c.turned-c.ensures c.square-twice.ensures

pub returns : goal.returns
returns c =
    let l = c.loop-left in
    squaring_end _ l.left _ _ _ l.invariant (omega arith) c.turned.ensures
