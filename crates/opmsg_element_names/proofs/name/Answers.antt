use Rattle.std.proofs.Common.{◌+◌}
use mathlib.Core.Path.{sym}
use lib.Seq.{drop-drop, length-take-le}
use Rattle.opmsg.specs.Names.{name_text}
use Rattle.wire.proofs.Bytes.{until_le}
use Rattle.wire.proofs.Parts.{rest_part}
use Rattle.opmsg_element_names.proofs.name.Goals as goal

pub slice_bounds-result-end : goal.slice_bounds-result-end
slice_bounds-result-end c = sym (length-take-le _ _ (rw c.until_zero-n.ensures (until_le _)))

pub returns : goal.returns
unfolding name_text
returns c = let a = c.args in rw (name_text, c.until_zero-n.ensures, drop-drop 1 a.place a.xs.now, rest_part (a.place + 1) a.xs.now)
