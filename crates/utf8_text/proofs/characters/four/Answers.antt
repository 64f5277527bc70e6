-- `utf8_text::characters::four` meets its contract: its bytes have the form, or one of them misses it.
-- Assumes nothing.
use mathlib.Core.Bool.{not}
use mathlib.Core.Path.{refl, ap}
use Rattle.utf8.proofs.Forms.{misses_byte, has_byte}
use Rattle.utf8_text.proofs.characters.four.Goals as goal
use Rattle.utf8_text.proofs.characters.four.Goals.{else-among-via-then-among+then-among-2+else-among-3, else-among-via-then-among+else-among-2, else-among-via-else-among}

pub returns-then-among-3 : goal.returns-then-among-3
returns-then-among-3 c =
    rw (has_byte _ _ _ 1 c.among.ensures (ap not c.if-among.true), has_byte _ _ _ 2 c.among-then-among.ensures (ap not c.if-among-2.true), ← c.among-then-among-2.ensures, c.if-among-3.true)
    refl

pub returns-else-among : goal.returns-else-among
returns-else-among c =
    let first = c.among.ensures in
    elim c.else-among.branch [
      | else-among-via-then-among+then-among-2+else-among-3 w ↦ rw (has_byte _ _ _ 1 first (ap not w.if-among.true), has_byte _ _ _ 2 w.among-then-among.ensures (ap not w.if-among-2.true), ← w.among-then-among-2.ensures, w.if-among-3.false) refl
      | else-among-via-then-among+else-among-2 w ↦ rw (has_byte _ _ _ 1 first (ap not w.if-among.true), misses_byte _ _ _ 2 w.among-then-among.ensures (ap not w.if-among-2.false)) refl
      | else-among-via-else-among w ↦ rw (misses_byte _ _ _ 1 first (ap not w.if-among.false)) refl
    ]
