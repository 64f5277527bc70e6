-- Each way out has its test, on where the zero byte stands and on what `well_formed` answers.
use Rattle.std.proofs.Common.{arith}
use Rattle.utf8.proofs.Beginning.{front_refused, front_passed}
use Rattle.utf8_text.proofs.ended.Goals as goal

pub returns-then-m-n : goal.returns-then-m-n
returns-then-m-n c = rw (← c.requires) (omega arith, omega arith, λ at. front_refused _ _ _ (omega arith) c.well_formed-m.ensures at (omega arith))

pub returns : goal.returns
returns c = (c.requires, omega arith, λ at. front_passed _ _ _ (omega arith) c.well_formed-m.ensures at (omega arith))
