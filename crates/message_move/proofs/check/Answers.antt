-- Reading, and what the move decides.
use Rattle.std.proofs.Common.{◌≡◌, Err, sym, ◌∙◌, rules, arith}
use Rattle.message.proofs.Outputs.{decided_refused}
use Rattle.message_move.proofs.Moves.{move_unread, move_decided}
use Rattle.message_move.proofs.check.Goals as goal

pub returns-in_err-v : goal.returns-in_err-v
returns-in_err-v c =
    let a = c.args in
    let e : c.from_residual.result ≡ Err c.in_err-v.field-0.0 = search rules in
    rw e (sym (decided_refused _ (move_unread a.e a.s.now a.behind a.room (sym c.in_err-v.ensures))))

pub returns : goal.returns
returns c =
    let a = c.args in
    rw c.sequence_count.ensures at c.movable.ensures ∙ sym (move_decided a.e a.s.now a.behind a.room c.in_ok-v.v (sym c.in_ok-v.ensures) λ i. omega (arith, c.type_inv.s i))
