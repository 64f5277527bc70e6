-- `crc32c_refresh::operator::block` meets its contract, by computation: its last number gives the others.
-- Assumes nothing.
use Rattle.crc32c_tables.specs.Steps.{shift_bit, shift_bits}
use Rattle.crc32c_refresh.specs.Refresh.{advance}
use Rattle.crc32c_refresh.proofs.Operators.{operator_falls}
use Rattle.crc32c_refresh.proofs.operator.block.Goals as goal

pub returns : goal.returns
unfolding shift_bit shift_bits advance
returns c = operator_falls 256
