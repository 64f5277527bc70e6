-- The steps of CRC-32C's register (RFC 4960, appendix B): the Castagnoli polynomial, 0x1EDC6F41, whose bits are taken
-- lowest first, so that it reads 0x82F63B78.
-- Assumes nothing: these are definitions.
use Rattle.std.specs.Prelude.{ℕ, zero, suc, ◌*◌, ◌/◌, ◌%◌}
use Rattle.std.specs.Int.Bits.{bit_xor}

-- one bit: the register moves down by one, and takes the polynomial where a one falls out
unfoldable pub shift_bit : ℕ → ℕ
shift_bit c = bit_xor (c / 2) (c % 2 * 0x82F6_3B78)

-- n bits
unfoldable pub shift_bits : ℕ → ℕ → ℕ
shift_bits zero c = c
shift_bits (suc n) c = shift_bits n (shift_bit c)
