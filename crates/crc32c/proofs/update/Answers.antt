-- `crc32c::update` meets its contract: the chunks of sixteen bytes, and what is left behind them.
-- Assumes nothing.
use Rattle.std.proofs.Common.{rules, ◌/◌, length}
use native.Mathlib.Omega.{arith}
use Rattle.std.specs.Simd.{first_chunks}
use Rattle.std.proofs.lemmas.Iterator.{YieldsList-from_slice}
use Rattle.std.proofs.lemmas.Iterator.Consumers.{fold_from_yields_List}
use Rattle.crc32c.specs.Crc.{register_after}
use Rattle.crc32c.proofs.Laws.{register_chunks}
use Rattle.crc32c.proofs.update.Goals as goal

pub returns : goal.returns
returns c =
    let r = c.args.register in
    let s = c.args.s.now in
    let k = length s / 16 in
    let whole =
    fold_from_yields_List _ register_after r c.fold-whole.result c.fold-whole.ensures.ran (YieldsList-from_slice (first_chunks 16 k s) cc)
    (λ r x b q k. search rules) in
    rw (c.bytes.ensures, whole, c.as_chunks.ensures.back) (register_chunks 16 k r s (omega arith))
