-- The checks behind reading, the documents, and then the names.
use Rattle.std.proofs.Common.{◌≡◌, ◌+◌, ◌≤◌, Err, sym, length, rules, arith}
use Rattle.opmsg.specs.Layout.{max_length}
use Rattle.opmsg.specs.Sections.{max_sections}
use Rattle.opmsg.proofs.Limits.{max_length_small}
use Rattle.message_append_checks.proofs.Appending.{allows}
use Rattle.message_append_checks.proofs.Answers.{checksum_within, permits, before_refuse, documents_refuse, documents_ready, ready_low, ready_inside, ready_filled, ready_entry, ready_taken, ready_grown}
use Rattle.message_append_checks.proofs.examine.Goals as goal

pub overflow_sub-end : goal.overflow_sub-end
overflow_sub-end c = omega (arith, c.checksum_size.ensures, checksum_within _ _ _ c.requires)

pub returns-in_err-before_documents : goal.returns-in_err-before_documents
returns-in_err-before_documents c =
    let a = c.args in
    let e : c.from_residual.result ≡ Err c.in_err-before_documents.field-0.0 = search rules in
    rw e (before_refuse _ _ _ c.requires _ c.checksum_size.ensures _ c.sequence_count-count.ensures a.identifier.now a.documents.now a.room (sym c.in_err-before_documents.ensures))

limit : (c : goal.In_ok-before_documents) → let a = c.args in a.v.length + (length a.identifier.now + 6 + length a.documents.now) ≤ max_length
limit c = (allows _ _ _ _ _ _ (permits _ _ _ _ _ _ (sym c.in_ok-before_documents.ensures)).0).limit

pub overflow_cast-at : goal.overflow_cast-at
overflow_cast-at c = omega (arith, limit c, max_length_small)

pub documents-requires : goal.documents-requires
documents-requires c = omega (arith, limit c, max_length_small)

pub returns-in_err-counted : goal.returns-in_err-counted
returns-in_err-counted c =
    let a = c.args in
    let e : c.from_residual-in_err-counted.result ≡ Err c.in_err-counted.field-0.0 = search rules in
    rw e (documents_refuse _ _ _ c.requires _ c.checksum_size.ensures _ c.sequence_count-count.ensures a.identifier.now a.documents.now a.room
    (sym c.in_ok-before_documents.ensures) (sym (c.in_err-counted.ensures _ (omega arith))))

pub repeated-requires : goal.repeated-requires
unfolding max_sections
repeated-requires c =
    let k =
    documents_ready _ _ _ c.requires _ c.checksum_size.ensures _ c.sequence_count-count.ensures c.args.identifier.now c.args.documents.now c.args.room
    (sym c.in_ok-before_documents.ensures) (sym (c.in_ok-counted.ensures _ (omega arith))) in
    (ready_low k, ready_inside k, omega (arith, ready_entry k), ready_filled k)

pub returns-then-repeated : goal.returns-then-repeated
returns-then-repeated c =
    let k =
    documents_ready _ _ _ c.requires _ c.checksum_size.ensures _ c.sequence_count-count.ensures c.args.identifier.now c.args.documents.now c.args.room
    (sym c.in_ok-before_documents.ensures) (sym (c.in_ok-counted.ensures _ (omega arith))) in
    rw c.at.ensures (ready_taken k c.repeated.result c.repeated.ensures c.if-repeated.true)

pub returns : goal.returns
returns c =
    let k =
    documents_ready _ _ _ c.requires _ c.checksum_size.ensures _ c.sequence_count-count.ensures c.args.identifier.now c.args.documents.now c.args.room
    (sym c.in_ok-before_documents.ensures) (sym (c.in_ok-counted.ensures _ (omega arith))) in
    (k, ready_grown k c.repeated.result c.repeated.ensures c.if-repeated.false)
