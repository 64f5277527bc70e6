-- The cycle is begun with all levels.
use Rattle.bson.specs.Document.{max_levels}
use Rattle.bson.proofs.document.Goals as goal

pub returns : goal.returns
unfolding max_levels
returns c = c.document_at.ensures
