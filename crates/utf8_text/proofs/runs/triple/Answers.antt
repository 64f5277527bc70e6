-- `utf8_text::runs::triple` meets its contract: a character of three bytes is passed, or nothing is.
-- Assumes nothing.
use Rattle.utf8_text.proofs.Passing.{character_passes}
use Rattle.utf8_text.proofs.runs.triple.Goals as goal

pub returns-in-224-to-239 : goal.returns-in-224-to-239
returns-in-224-to-239 c = character_passes _ _ c.of_three.ensures
