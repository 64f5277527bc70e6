use mathlib.Core.Path.{ap, ◌∙◌}
use mir.Syntax.{w32}
use mir.Facts.{to_z-of_z}
use Rattle.wire.specs.Bytes.{word, word_at}
use Rattle.wire.proofs.Parts.{rest_part}
use Rattle.opmsg.specs.Flags.{kept}
use Rattle.opmsg_view.proofs.Shown.{view_is}
use Rattle.opmsg_view.proofs.view.Goals as goal

pub returns : goal.returns
unfolding word_at
returns c =
    let e = c.args.e in
    let s = c.args.s.now in
    λ p entries counted.
    view_is e s p _
    c.word-length.ensures
    (to_z-of_z {w = w32} (record { sfits = c.id_at-request_id.type_inv }) ∙ c.id_at-request_id.ensures)
    (to_z-of_z {w = w32} (record { sfits = c.id_at-response_to.type_inv }) ∙ c.id_at-response_to.ensures)
    (c.kept-flags.ensures ∙ ap (kept e.bits) (c.word.ensures ∙ ap word (rest_part 16 s)))
    entries
    counted
