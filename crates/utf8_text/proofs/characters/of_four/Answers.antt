-- `utf8_text::characters::of_four` meets its contract: each way out has the form that its first byte tells, and the last one has none.
-- Assumes nothing.
use mathlib.Core.Path.{refl, sym, ◌∙◌}
use native.Mathlib.Omega.{arith}
use lib.ListN.{get_or}
use Rattle.utf8.specs.Utf8.{◌–◌, forms}
use Rattle.utf8.proofs.Forms.{meeting, of_form, of_none}
use Rattle.utf8_text.proofs.characters.of_four.Goals as goal

pub returns-in-240 : goal.returns-in-240
unfolding forms meeting
returns-in-240 c = c.four.ensures ∙ sym (of_form (0xF0 – 0xF0) c.args.s.now (omega arith) (omega arith) (omega arith) _ refl)

pub returns-in-241-to-243 : goal.returns-in-241-to-243
unfolding forms meeting
returns-in-241-to-243 c = c.four-in-241-to-243.ensures ∙ sym (of_form (0xF1 – 0xF3) c.args.s.now (omega arith) (omega arith) (omega arith) _ refl)

pub returns-in-244 : goal.returns-in-244
unfolding forms meeting
returns-in-244 c = c.four-in-244.ensures ∙ sym (of_form (0xF4 – 0xF4) c.args.s.now (omega arith) (omega arith) (omega arith) _ refl)

pub returns-in_default-2 : goal.returns-in_default-2
unfolding forms meeting
returns-in_default-2 c = sym (of_none (0xF5 – get_or c.args.s.now 0 0) c.args.s.now (omega arith) (omega arith) (omega arith) refl)
