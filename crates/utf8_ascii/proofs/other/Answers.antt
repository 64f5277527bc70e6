-- `utf8_ascii::other` meets its contract: of a number of eight bytes, the highest bit of each is looked at.
-- Assumes nothing.
use borrow.Author.Tests.{eqb-true, not-false}
use Rattle.utf8_ascii.proofs.OneByte.{eight_ascii}
use Rattle.utf8_ascii.proofs.other.Goals as goal

pub returns : goal.returns
returns c = λ e. eight_ascii c.args.eight.now c.from_le_bytes.result (λ i. c.fits-eight i) c.from_le_bytes.ensures (eqb-true _ _ (not-false _ e))
