-- `crc32c_refresh::operator::advance` meets its contract: a squaring of the block's operator is the advance over the blocks.
-- Assumes nothing.
use mathlib.Core.Path.{ap, ◌∙◌}
use Rattle.std.proofs.Common.{ℕ, List}
use Rattle.crc32c_refresh.specs.Operator.{squaring}
use Rattle.crc32c_refresh.proofs.Operators.{operators}
use Rattle.crc32c_refresh.proofs.operator.advance.Goals as goal

pub returns : goal.returns
returns c =
    let a = c.args in
    c.squaring.ensures ∙ ap (λ (m : List ℕ). squaring 64 m a.blocks a.change) c.block.ensures
    ∙ operators.squares 64 256 a.blocks a.change c.ranges.blocks.fits c.ranges.change.fits
