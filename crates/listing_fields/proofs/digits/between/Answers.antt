-- The number, if it lies between.
use Rattle.std.proofs.Common.{inl, inr}
use Rattle.listing_fields.proofs.Spelling.{between_none, between_under, between_over, between_is}
use Rattle.listing_fields.proofs.digits.between.Goals as goal

pub returns-in_err-n : goal.returns-in_err-n
returns-in_err-n c = λ k. rw c.from_residual.ensures (between_none k c.args.least c.args.most c.args.f.now (c.in_err-n.ensures k))

pub returns-then-most-n : goal.returns-then-most-n
returns-then-most-n c = λ k.
    let a = c.args in
    elim c.if-most-n.either [
      | inl under ↦ between_under k a.least a.most a.f.now c.in_ok-n.n (c.in_ok-n.ensures k) under
      | inr over ↦ between_over k a.least a.most a.f.now c.in_ok-n.n (c.in_ok-n.ensures k) over.0 over.1
    ]

pub returns-else-most-n : goal.returns-else-most-n
returns-else-most-n c = λ k. between_is k c.args.least c.args.most c.args.f.now c.in_ok-n.n (c.in_ok-n.ensures k) c.if-most-n.false.0 c.if-most-n.false.1
