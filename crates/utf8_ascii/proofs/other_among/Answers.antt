-- `utf8_ascii::other_among` meets its contract: no byte is above all of them taken together.
-- Assumes nothing.
use Rattle.std.proofs.Common.{rules}
use Rattle.std.proofs.lemmas.Iterator.{YieldsList-from_slice}
use Rattle.std.proofs.lemmas.Iterator.Consumers.{fold_from_yields_List}
use native.Mathlib.Omega.{arith}
use lib.Bits.{bit_or}
use borrow.Author.Tests.{leb-false}
use Rattle.utf8_ascii.proofs.OneByte.{above_all}
use Rattle.utf8_ascii.proofs.other_among.Goals as goal

pub returns : goal.returns
returns c =
    let s = c.args.block.now in
    let all = fold_from_yields_List _ bit_or 0 c.fold.result c.fold.ensures.ran (YieldsList-from_slice s cc) (λ a x b q k. search rules) in
    λ e i. omega (arith, all, (above_all s 0 i).1, leb-false _ _ e)
