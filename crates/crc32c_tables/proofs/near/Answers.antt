-- `crc32c_tables::near` meets its contract: antt computes that its table is the list, whose rule is a law.
-- Assumes nothing.
use Rattle.crc32c_tables.proofs.Tables.{NEAR_at}
use Rattle.crc32c_tables.proofs.near.Goals as goal

pub returns : goal.returns
returns c = NEAR_at c.args.i c.requires
