-- `utf8_text::characters::of_two` meets its contract: the form of two bytes, or none.
-- Assumes nothing.
use mathlib.Core.Path.{refl, sym, ◌∙◌}
use native.Mathlib.Omega.{arith}
use Rattle.utf8.specs.Utf8.{◌–◌, forms}
use Rattle.utf8.proofs.Forms.{meeting, of_form, of_none}
use Rattle.utf8_text.proofs.characters.of_two.Goals as goal

pub returns-then-s-lt194 : goal.returns-then-s-lt194
unfolding forms meeting
returns-then-s-lt194 c = sym (of_none (0x80 – 0xC1) c.args.s.now (omega arith) (omega arith) (omega arith) refl)

pub returns-else-s-lt194 : goal.returns-else-s-lt194
unfolding forms meeting
returns-else-s-lt194 c = c.two.ensures ∙ sym (of_form (0xC2 – 0xDF) c.args.s.now (omega arith) (omega arith) (omega arith) _ refl)
