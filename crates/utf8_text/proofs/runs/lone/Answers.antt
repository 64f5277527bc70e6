-- `utf8_text::runs::lone` meets its contract: the byte that was looked at is a character, or nothing is passed.
-- Assumes nothing.
use native.Mathlib.Omega.{arith}
use Rattle.utf8_ascii.proofs.OneByte.{ascii_one}
use Rattle.utf8_text.proofs.Passing.{ascii_passes}
use Rattle.utf8_text.proofs.runs.lone.Goals as goal

pub returns-else-s-lt128 : goal.returns-else-s-lt128
returns-else-s-lt128 c = ascii_passes 1 c.args.s.now (omega (arith, c.requires)) (ascii_one c.args.s.now c.requires.1)
