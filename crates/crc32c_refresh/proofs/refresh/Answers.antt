-- `crc32c_refresh::refresh` meets its contract: the change goes over zeros, and then over whole blocks.
-- Assumes nothing.
use Rattle.crc32c_refresh.proofs.Refreshes.{refreshed_by}
use Rattle.crc32c_refresh.proofs.refresh.Goals as goal

pub returns : goal.returns
returns c =
    let a = c.args in
    refreshed_by a.checksum a.old a.new a.following _ _ c.update-change.ensures c.advance.ensures
