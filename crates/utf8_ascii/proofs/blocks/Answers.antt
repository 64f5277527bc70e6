-- `utf8_ascii::blocks` meets its contract: the chunks before the first that has another byte in it have none.
-- Assumes nothing.
use Rattle.std.proofs.Common.{rules, ℕ, ◌/◌, List, length}
use mathlib.Core.Path.{refl}
use Rattle.std.specs.Bool.{⊤}
use Rattle.std.specs.Simd.{first_chunks}
use Rattle.std.proofs.lemmas.Iterator.{YieldsList-from_slice, IsFirst-from_position}
use Rattle.utf8_ascii.specs.Inner.{Ascii}
use Rattle.utf8_ascii.proofs.OneByte.{ascii_chunks}
use Rattle.utf8_ascii.proofs.blocks.Goals as goal

pub returns-clause-is : goal.returns-clause-is
returns-clause-is c =
    let s = c.args.s.now in
    let k = length s / 64 in
    let cs = first_chunks 64 k s in
    let found =
    IsFirst-from_position _ _ c.position-ascii.result (λ (_ : List ℕ). ⊤) (Ascii 64) c.position-ascii.ensures.ran (YieldsList-from_slice cs cc) (λ x q t. tt)
    (λ x q t. search rules) in
    ascii_chunks (λ _. ⊤) 64 k s cs c.position-ascii.result c.unwrap_or.result refl (cc) found
