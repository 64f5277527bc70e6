-- `crc32c::parts::byte` meets its contract, by the law of a byte's halves.
-- Assumes nothing.
use mathlib.Core.Path.{sym}
use Rattle.crc32c.proofs.Laws.{byte_halves}
use Rattle.crc32c.proofs.parts.byte.Goals as goal

pub returns : goal.returns
returns c =
    let a = c.args in
    rw (c.high_half.ensures, c.low_half.ensures, c.from.ensures) (sym (byte_halves a.register a.b))
