-- What the digits spell, if the field is written so.
use Rattle.std.proofs.Common.{◌∙◌, sym, arith}
use Rattle.listing_fields.proofs.Spelling.{number_large, number_other, number_is}
use Rattle.listing_fields.proofs.digits.number.Goals as goal

pub returns-in_err-n : goal.returns-in_err-n
returns-in_err-n c = λ k. rw c.from_residual.ensures (number_large k c.args.f.now c.in_err-n.ensures)

pub returns-then-written : goal.returns-then-written
returns-then-written c = λ k. number_is k c.args.f.now c.in_ok-n.n c.in_ok-n.ensures (omega arith) (sym c.written.ensures ∙ c.if-written.true)

pub returns-else-written : goal.returns-else-written
returns-else-written c = λ k. number_other k c.args.f.now c.in_ok-n.n c.in_ok-n.ensures (sym c.written.ensures ∙ c.if-written.false)
