-- `utf8_text::characters::of_three` meets its contract: each way out has the form that its first byte tells, and the last one has two of them.
-- Assumes nothing.
use mathlib.Core.Path.{refl, sym, ◌∙◌}
use native.Mathlib.Omega.{arith}
use native.Mathlib.Decide.{dec_lt}
use lib.ListN.{get_or}
use Rattle.utf8.specs.Utf8.{◌–◌, forms}
use Rattle.utf8.proofs.Forms.{meeting, of_form}
use Rattle.utf8_text.proofs.characters.of_three.Goals as goal

pub returns-in-224 : goal.returns-in-224
unfolding forms meeting
returns-in-224 c = c.three.ensures ∙ sym (of_form (0xE0 – 0xE0) c.args.s.now (omega arith) (omega arith) (omega arith) _ refl)

pub returns-in-237 : goal.returns-in-237
unfolding forms meeting
returns-in-237 c = c.three-in-237.ensures ∙ sym (of_form (0xED – 0xED) c.args.s.now (omega arith) (omega arith) (omega arith) _ refl)

pub returns-in_default : goal.returns-in_default
unfolding forms meeting
returns-in_default c =
    let s = c.args.s.now in
    c.three-in_default.ensures
    ∙ elim (dec_lt (get_or s 0 0) 0xED) [
      | yes below ↦ sym (of_form (0xE1 – 0xEC) s (omega arith) (omega arith) (omega arith) _ refl)
      | no other ↦ sym (of_form (0xEE – 0xEF) s (omega arith) (omega arith) (omega arith) _ refl)
    ]
