-- `utf8_ascii::plain_run` meets its contract: the fours before the first that has another byte in it are passed, and the rest is told behind them.
-- Assumes nothing.
use Rattle.std.proofs.Common.{rules, ◌*◌, ◌/◌, List, ℕ, length}
use mathlib.Core.Path.{refl}
use native.Mathlib.Omega.{arith}
use Rattle.std.specs.Bool.{⊤}
use Rattle.std.specs.Simd.{first_chunks}
use Rattle.std.proofs.lemmas.Iterator.{YieldsList-from_slice, IsFirst-from_position}
use Rattle.wire.proofs.Parts.{rest_part}
use Rattle.utf8_ascii.specs.Inner.{AllPlain}
use Rattle.utf8_ascii.proofs.OneByte.{plain_chunks, plain_then}
use Rattle.utf8_ascii.proofs.plain_run.Goals as goal

pub returns : goal.returns
returns c =
    let s = c.args.s.now in
    let k = length s / 4 in
    let cs = first_chunks 4 k s in
    let found =
    IsFirst-from_position _ _ c.position-clear.result (λ (_ : List ℕ). ⊤) AllPlain c.position-clear.ensures.ran (YieldsList-from_slice cs cc) (λ x q t. tt)
    (λ x q t. search rules) in
    plain_then (c.unwrap_or-passed.result * 4) c.until_zero.result s
    (plain_chunks (λ _. ⊤) k s cs c.position-clear.result c.unwrap_or-passed.result (omega arith) refl (cc) found)
    (rw rest_part at c.until_zero.ensures)
