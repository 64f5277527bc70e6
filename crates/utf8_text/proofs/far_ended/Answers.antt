-- Where a zero byte ends the characters of one byte, those are the text.
use Rattle.utf8_text.proofs.Passing.{plain_text}
use Rattle.utf8_text.proofs.far_ended.Goals as goal

pub returns-then-zero_at : goal.returns-then-zero_at
returns-then-zero_at c = plain_text _ _ c.plain_run-n.ensures (c.zero_at.ensures c.if-zero_at.true)
