-- `utf8_text::runs::pair` meets its contract: its first byte tells the form of two bytes, or a lone one, or nothing is passed.
-- Assumes nothing.
use mathlib.Core.Path.{refl, sym, ◌∙◌}
use native.Mathlib.Omega.{arith}
use Rattle.utf8.specs.Utf8.{◌–◌, forms}
use Rattle.utf8.proofs.Forms.{meeting, of_form}
use Rattle.utf8_text.proofs.Passing.{character_passes}
use Rattle.utf8_text.proofs.runs.pair.Goals as goal

pub returns-in-194-to-223 : goal.returns-in-194-to-223
unfolding forms meeting
returns-in-194-to-223 c =
    let s = c.args.s.now in
    character_passes _ s (c.two.ensures ∙ sym (of_form (0xC2 – 0xDF) s (omega arith) (omega arith) (omega arith) _ refl))
