-- `utf8_text::runs::block` meets its contract: it begins with no tail, its bytes are joined, and its last one tells where it ends.
-- Assumes nothing.
use Rattle.utf8_text.proofs.Blocks.{whole, and_a_tail}
use Rattle.utf8_text.proofs.runs.block.Goals as goal

pub returns-then-tail-2 : goal.returns-then-tail-2
returns-then-tail-2 c = and_a_tail c.args.s.now c.requires (c.joined.ensures c.if-not-joined.false) (c.tail.ensures.another c.if-tail.false) (c.tail-2.ensures.is c.if-tail-2.true)

pub returns-else-tail-2 : goal.returns-else-tail-2
returns-else-tail-2 c = whole c.args.s.now c.requires (c.joined.ensures c.if-not-joined.false) (c.tail.ensures.another c.if-tail.false) (c.tail-2.ensures.another c.if-tail-2.false)
