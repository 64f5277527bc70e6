-- Reading, what is decided, and then the message is stored and its view shown.
use Rattle.std.proofs.Common.{◌≡◌, Err, sym, refl, rules, arith}
use Rattle.opmsg.specs.Sections.{max_sections}
use Rattle.message.proofs.Outputs.{viewed_refused, output_refused, viewed_ok, output_ok}
use Rattle.message_append_checks.proofs.Appending.{append_unread}
use Rattle.message_append_checks.proofs.Answers.{ready_low, ready_inside, ready_length, ready_allowed, ready_small, ready_entry}
use Rattle.message_append.proofs.append.Goals as goal

pub returns-in_err-v : goal.returns-in_err-v
returns-in_err-v c =
    let a = c.args in
    let e : c.from_residual.result ≡ Err c.in_err-v.field-0.0 = search rules in
    let h = append_unread a.e a.s.now a.identifier.now a.documents.now _ (sym c.in_err-v.ensures) in
    record { shows = rw e (sym (viewed_refused _ h)); writes = sym (output_refused _ h _) }

pub examine-requires : goal.examine-requires
examine-requires c = sym c.in_ok-v.ensures

pub returns-in_err-found : goal.returns-in_err-found
returns-in_err-found c =
    let e : c.from_residual-in_err-found.result ≡ Err c.in_err-found.field-0.0 = search rules in
    let h = c.in_err-found.ensures in
    record { shows = rw e (sym (viewed_refused _ h)); writes = sym (output_refused _ h _) }

pub appended-requires : goal.appended-requires
appended-requires c =
    let k = c.in_ok-found.ensures.0 in
    (ready_low k, ready_inside k, omega (arith, ready_length k, (ready_allowed k).fits), omega (arith, ready_length k, ready_small k))

pub grown-requires : goal.grown-requires
unfolding max_sections
grown-requires c =
    let k = c.in_ok-found.ensures.0 in
    (omega (arith, ready_small k), omega (arith, ready_length k, ready_small k), omega (arith, ready_entry k), k.behind)

pub returns : goal.returns
returns c =
    let h = c.in_ok-found.ensures.1 in
    record { shows = rw (viewed_ok _ h) (rw c.grown.ensures refl); writes = rw (output_ok _ h _) c.appended.ensures }
