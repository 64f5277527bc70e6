-- `utf8_ascii::words` meets its contract: a run in the front, and parts of the run one behind the other.
-- Assumes nothing.
use Rattle.std.proofs.Common.{◌+◌}
use native.Mathlib.Omega.{arith}
use Rattle.utf8_ascii.specs.Inner.{Ascii}
use Rattle.utf8_ascii.proofs.OneByte.{ascii_part, ascii_front}
use Rattle.utf8_ascii.proofs.words.Goals as goal

pub returns-then-i-lt32-clause-is : goal.returns-then-i-lt32-clause-is
returns-then-i-lt32-clause-is c = ascii_front 32 c.eights-i.result c.args.s.now (omega arith) c.eights-i.ensures.is

pub returns-clause-is : goal.returns-clause-is
returns-clause-is c =
    let s = c.args.s.now in
    let all : Ascii 32 s = ascii_front 32 32 s (omega arith) (λ i h. c.eights-i.ensures.is i (omega arith)) in
    ascii_part (32 + c.blocks-j.result) c.eights-2.result s (ascii_part 32 c.blocks-j.result s all c.blocks-j.ensures.is) c.eights-2.ensures.is
