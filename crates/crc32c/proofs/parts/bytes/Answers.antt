-- `crc32c::parts::bytes` meets its contract.
-- Assumes nothing.
use Rattle.std.proofs.Common.{rules}
use mathlib.Core.Path.{sym, ◌∙◌}
use Rattle.std.proofs.lemmas.Iterator.{YieldsList-from_slice}
use Rattle.std.proofs.lemmas.Iterator.Consumers.{fold_from_yields_List}
use Rattle.crc32c.specs.Crc.{into_byte}
use Rattle.crc32c.proofs.Laws.{register_fold}
use Rattle.crc32c.proofs.parts.bytes.Goals as goal

pub returns : goal.returns
returns c =
    let a = c.args in
    fold_from_yields_List _ into_byte a.register c.fold.result c.fold.ensures.ran (YieldsList-from_slice a.s.now cc) (λ r x b q k. search rules)
    ∙ sym (register_fold a.register a.s.now)
