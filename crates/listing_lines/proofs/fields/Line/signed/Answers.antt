-- The minus is put first.
use Rattle.std.proofs.Common.{[], ◌∷◌, ◌++◌, append_assoc, to_z-of_z, arith}
use Rattle.listing_lines.proofs.Texts.{put_behind}
use Rattle.listing_lines.proofs.fields.Line.signed.Goals as goal
use Rattle.listing_lines.proofs.fields.Line.signed.Goals.{then-minus, else-minus}

pub returns-clause-written : goal.returns-clause-written
returns-clause-written c = λ text old w.
    elim c.if-minus.branch [
      | then-minus b ↦
          let parts = rw (to_z-of_z c.ranges.x, b.if-minus.true) at c.sign_and_size-minus.ensures in
          let minus = put_behind w (45 ∷ []) (omega (arith, c.requires)) in
          rw parts (rw append_assoc at (c.number.ensures.written (text ++ 45 ∷ []) old (rw (b.self-is, b.put.ensures) minus)))
      | else-minus b ↦
          let parts = rw (to_z-of_z c.ranges.x, b.if-minus.false) at c.sign_and_size-minus.ensures in
          rw parts (c.number.ensures.written text old (rw b.self-is w))
    ]
