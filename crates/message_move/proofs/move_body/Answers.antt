-- Reading, the checks, and then the message is stored and its view shown.
use Rattle.std.proofs.Common.{ℕ, List, ◌++◌, length, drop, ◌≡◌, ◌+◌, ap, ◌∙◌, Err, sym, rules, arith}
use lib.ListN.{length-take}
use Rattle.wire.specs.Outcome.{ok}
use Rattle.message.proofs.Outputs.{viewed_refused, output_refused, viewed_ok, output_ok}
use Rattle.message_move.proofs.Moves.{move_unread, move_barred, passes, few, few_sequences, room_left, answered, ordered, n_small, header_there, bytes_fit, sizes_small, bytes_moved, view_moved}
use Rattle.message_move.proofs.move_body.Goals as goal

pub returns-in_err-v : goal.returns-in_err-v
returns-in_err-v c =
    let a = c.args in
    let e : c.from_residual.result ≡ Err c.in_err-v.field-0.0 = search rules in
    let h = move_unread a.e a.s.now a.behind _ (sym c.in_err-v.ensures) in
    record { shows = rw e (sym (viewed_refused _ h)); writes = sym (output_refused _ h _) }

pub returns-in_err-movable : goal.returns-in_err-movable
returns-in_err-movable c =
    let a = c.args in
    let e : c.from_residual-in_err-movable.result ≡ Err c.in_err-movable.field-0.0 = search rules in
    let h = move_barred a.e a.s.now a.behind _ c.in_ok-v.v (sym c.in_ok-v.ensures) (sym (rw c.sequence_count-count.ensures at c.in_err-movable.ensures)) in
    record { shows = rw e (sym (viewed_refused _ h)); writes = sym (output_refused _ h _) }

pub reordered-entries-requires : goal.reordered-entries-requires
reordered-entries-requires c =
    let k = passes c.in_ok-v.ensures c.sequence_count-count.ensures c.in_ok-movable.ensures (λ i. omega (arith, c.type_inv.s i)) in
    (few k, few_sequences k)

pub slice_bounds-entries-end : goal.slice_bounds-entries-end
slice_bounds-entries-end c =
    let k = passes c.in_ok-v.ensures c.sequence_count-count.ensures c.in_ok-movable.ensures (λ i. omega (arith, c.type_inv.s i)) in
    omega (arith, n_small (ordered k c.reordered-entries.ensures))

pub slice_bounds-used-end : goal.slice_bounds-used-end
slice_bounds-used-end c =
    let k = passes c.in_ok-v.ensures c.sequence_count-count.ensures c.in_ok-movable.ensures (λ i. omega (arith, c.type_inv.s i)) in
    let long : length c.reordered-entries.result ≡ 17 = search rules in
    omega (arith, n_small (ordered k c.reordered-entries.ensures), long, length-take (c.sequence_count-count.result + 1) c.reordered-entries.result)

pub moved-requires : goal.moved-requires
moved-requires c =
    let k = passes c.in_ok-v.ensures c.sequence_count-count.ensures c.in_ok-movable.ensures (λ i. omega (arith, c.type_inv.s i)) in
    let o = ordered k c.reordered-entries.ensures in
    (header_there o, omega (arith, bytes_fit o, room_left k))

pub moved_view-requires : goal.moved_view-requires
moved_view-requires c =
    let k = passes c.in_ok-v.ensures c.sequence_count-count.ensures c.in_ok-movable.ensures (λ i. omega (arith, c.type_inv.s i)) in
    let o = ordered k c.reordered-entries.ensures in
    (omega (arith, n_small o, length-take (c.sequence_count-count.result + 1) c.reordered-entries.result), sizes_small o)

pub returns : goal.returns
returns c =
    let k = passes c.in_ok-v.ensures c.sequence_count-count.ensures c.in_ok-movable.ensures (λ i. omega (arith, c.type_inv.s i)) in
    let o = ordered k c.reordered-entries.ensures in
    let h = answered k in
    record {
      shows = sym (viewed_ok _ h ∙ ap ok (sym (c.moved_view.ensures ∙ view_moved o)));
      writes = rw (output_ok _ h) (c.moved.ensures ∙ ap (λ (m : List ℕ). m ++ drop (length m) c.args.out.now) (bytes_moved o));
    }
