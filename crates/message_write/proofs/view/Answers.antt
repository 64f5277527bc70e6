-- The one section stands in the first entry.
use mir.Facts.{to_z-of_z}
use Rattle.opmsg.specs.Sections.{max_sections}
use Rattle.opmsg.specs.View.{padded}
use Rattle.message_write.specs.Inner.{shown}
use Rattle.message_write.proofs.view.Goals as goal

pub returns : goal.returns
unfolding shown padded max_sections
returns c = rw (c.no_entries-entries.ensures, to_z-of_z c.ranges.request_id, to_z-of_z c.ranges.response_to)
