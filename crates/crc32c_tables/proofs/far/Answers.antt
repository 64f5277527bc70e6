-- `crc32c_tables::far` meets its contract: antt computes that its table is the list, whose rule is a law.
-- Assumes nothing.
use Rattle.crc32c_tables.proofs.Tables.{FAR_at}
use Rattle.crc32c_tables.proofs.far.Goals as goal

pub returns : goal.returns
returns c = FAR_at c.args.i c.requires
