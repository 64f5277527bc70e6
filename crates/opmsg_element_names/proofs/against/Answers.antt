use Rattle.std.proofs.Common.{◌+◌}
use lib.Seq.{drop-drop}
use Rattle.opmsg.specs.Names.{name_text}
use Rattle.wire.proofs.Parts.{rest_part}
use Rattle.opmsg_element_names.proofs.against.Goals as goal

pub returns : goal.returns
unfolding name_text
returns c = let a = c.args in rw (drop-drop 1 a.place a.xs.now) (rw (rest_part (a.place + 1) a.xs.now) at c.compare.ensures)
