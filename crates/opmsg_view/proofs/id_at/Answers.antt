use mathlib.Core.Path.{ap, ◌∙◌}
use mir.Syntax.{w32}
use mir.Facts.{to_z-of_z}
use Rattle.wire.specs.Bytes.{word, word_at, signed}
use Rattle.wire.proofs.Parts.{rest_part}
use Rattle.opmsg_view.proofs.id_at.Goals as goal

pub returns : goal.returns
unfolding word_at
returns c = to_z-of_z {w = w32} (record { sfits = c.signed.type_inv }) ∙ c.signed.ensures ∙ ap signed (c.word.ensures ∙ ap word (rest_part c.args.at c.args.s.now))
