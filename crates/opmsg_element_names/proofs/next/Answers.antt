use Rattle.wire.proofs.Parts.{rest_part}
use mathlib.Core.Path.{◌∙◌}
use Rattle.opmsg_element_names.proofs.Ordering.{name_length_lem}
use Rattle.opmsg_element_names.proofs.next.Goals as goal

pub element_size-requires : goal.element_size-requires
element_size-requires c = rw (rest_part c.args.place c.args.xs.now) (c.requires.1 ∙ name_length_lem _, c.requires.0.0, c.requires.0.1)
