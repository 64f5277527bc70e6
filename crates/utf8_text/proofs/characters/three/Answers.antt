-- `utf8_text::characters::three` meets its contract: its bytes have the form, or one of them misses it.
-- Assumes nothing.
use mathlib.Core.Bool.{not}
use mathlib.Core.Path.{refl, ap}
use Rattle.utf8.proofs.Forms.{misses_byte, has_byte}
use Rattle.utf8_text.proofs.characters.three.Goals as goal
use Rattle.utf8_text.proofs.characters.three.Goals.{else-among-via-then-among+else-among-2, else-among-via-else-among}

pub returns-then-among-2 : goal.returns-then-among-2
returns-then-among-2 c = rw (has_byte _ _ _ 1 c.among.ensures (ap not c.if-among.true), ← c.among-then-among.ensures, c.if-among-2.true) refl

pub returns-else-among : goal.returns-else-among
returns-else-among c =
    elim c.else-among.branch [
      | else-among-via-then-among+else-among-2 w ↦ rw (has_byte _ _ _ 1 c.among.ensures (ap not w.if-among.true), ← w.among-then-among.ensures, w.if-among-2.false) refl
      | else-among-via-else-among w ↦ rw (misses_byte _ _ _ 1 c.among.ensures (ap not w.if-among.false)) refl
    ]
