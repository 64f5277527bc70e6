-- Reading, and what the append decides.
use Rattle.std.proofs.Common.{◌≡◌, Err, sym, rules}
use Rattle.message.proofs.Outputs.{decided_refused, decided_ok}
use Rattle.message_append_checks.proofs.Appending.{append_unread}
use Rattle.message_append.proofs.check.Goals as goal

pub returns-in_err-v : goal.returns-in_err-v
returns-in_err-v c =
    let a = c.args in
    let e : c.from_residual.result ≡ Err c.in_err-v.field-0.0 = search rules in
    rw e (sym (decided_refused _ (append_unread a.e a.s.now a.identifier.now a.documents.now a.room (sym c.in_err-v.ensures))))

pub examine-requires : goal.examine-requires
examine-requires c = sym c.in_ok-v.ensures

pub returns-in_err-examine : goal.returns-in_err-examine
returns-in_err-examine c =
    let e : c.from_residual-in_err-examine.result ≡ Err c.in_err-examine.field-0.0 = search rules in
    rw e (sym (decided_refused _ c.in_err-examine.ensures))

pub returns : goal.returns
returns c = sym (decided_ok _ c.in_ok-examine.ensures.1)
