-- `utf8_text::characters::among` meets its contract: past the end there is no byte, and at a place there is one, with its two tests.
-- Assumes nothing.
use Rattle.std.proofs.Common.{◌≡◌, false, true}
use mathlib.Core.Bool.{false≢true}
use mathlib.Core.Path.{refl, sym, ◌∙◌}
use lib.ListN.{get_or}
use lib.Dec.{leb}
use borrow.Author.Tests.{le-ltb}
use Rattle.utf8.specs.Utf8.{◌–◌}
use Rattle.utf8.proofs.Forms.{no_byte, a_byte}
use Rattle.utf8_text.proofs.characters.among.Goals as goal
use Rattle.utf8_text.proofs.characters.among.Goals.{then-i-s, else-i-s}

pub returns-then-low-s : goal.returns-then-low-s
returns-then-low-s c =
    let a = c.args in
    elim c.if-i-s.branch [
      | then-i-s w ↦ let e : leb a.low (get_or a.s.now a.i 0) ≡ true = sym w.value-is ∙ c.if-low-s.true in rw (a_byte (a.low – a.high) a.s.now a.i w.if-i-s.true, e) refl
      | else-i-s w ↦ absurd (false≢true (sym (le-ltb _ _ w.if-i-s.false) ∙ sym w.value-is ∙ c.if-low-s.true))
    ]

pub returns-else-low-s : goal.returns-else-low-s
returns-else-low-s c =
    let a = c.args in
    elim c.if-i-s.branch [
      | then-i-s w ↦ let e : leb a.low (get_or a.s.now a.i 0) ≡ false = sym w.value-is ∙ c.if-low-s.false in rw (c.if-low-s.false, a_byte (a.low – a.high) a.s.now a.i w.if-i-s.true, e) refl
      | else-i-s w ↦ rw (w.value-is, le-ltb _ _ w.if-i-s.false, no_byte (a.low – a.high) a.s.now a.i w.if-i-s.false) refl
    ]
