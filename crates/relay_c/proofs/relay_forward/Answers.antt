-- Reading's answer, the room for the message and for the view, and both written.
use Rattle.std.proofs.Common.{sym, refl, length, arith, rules}
use Rattle.message.specs.Forward.{forwarded, forward}
use Rattle.message.proofs.Refusals.{refusals_bounded}
use Rattle.message.proofs.Forwarding.{forward_refused, forward_short, forward_fits}
use Rattle.relay_c_results.specs.Numbers.{view_size}
use Rattle.relay_c_results.proofs.Room.{own_refusal, no_room, has_room}
use Rattle.relay_c.proofs.Results.{refused_leaves, accepted_leaves}
use Rattle.relay_c.proofs.relay_forward.Goals as goal

pub refusal-requires-in-Err : goal.refusal-requires-in-Err
refusal-requires-in-Err c = (refusals_bounded.reads c.edition.result c.args.message.now _ _ (sym (rw c.in-Err.is at c.read.ensures))).3

pub returns-in-Err : goal.returns-in-Err
returns-in-Err c =
    let o = forward c.edition.result c.args.message.now (length c.args.out.now) in
    let p = refused_leaves _ o c.args.out.now c.args.view.now (own_refusal _ o (forward_refused c.edition.result c.args.message.now _ (sym (rw c.in-Err.is at c.read.ensures)))) (rw c.from-in-Err.ensures at c.refusal-in-Err.ensures) in
    rw (← c.edition.ensures) (record { answers = p.0; writes = p.1.0; shows = p.1.1 })

pub returns-then-out-size : goal.returns-then-out-size
returns-then-out-size c =
    let o = forward c.edition.result c.args.message.now (length c.args.out.now) in
    let f = forward_short c.edition.result c.args.message.now _ _ (sym (rw c.in-Ok.is at c.read.ensures)) (omega arith) in
    let p = refused_leaves _ o c.args.out.now c.args.view.now (own_refusal _ o f) (rw c.from.ensures at c.refusal.ensures) in
    rw (← c.edition.ensures) (record { answers = p.0; writes = p.1.0; shows = p.1.1 })

pub returns-then-view-lt-NUMBERS : goal.returns-then-view-lt-NUMBERS
unfolding view_size
returns-then-view-lt-NUMBERS c =
    let o = forward c.edition.result c.args.message.now (length c.args.out.now) in
    let f = forward_fits c.edition.result c.args.message.now _ _ (sym (rw c.in-Ok.is at c.read.ensures)) (omega arith) in
    let p = refused_leaves _ o c.args.out.now c.args.view.now (no_room _ o (omega arith) f) (search rules) in
    rw (← c.edition.ensures) (record { answers = p.0; writes = p.1.0; shows = p.1.1 })

pub forwarded-requires : goal.forwarded-requires
forwarded-requires c = (record { edition = c.edition.result; view = c.in-Ok.v; reads = sym (rw c.in-Ok.is at c.read.ensures); size_is = refl; flags_is = refl }, omega arith)

pub show-requires : goal.show-requires
unfolding view_size
show-requires c = omega arith

pub returns-else-view-lt-NUMBERS : goal.returns-else-view-lt-NUMBERS
unfolding view_size forwarded
returns-else-view-lt-NUMBERS c =
    let o = forward c.edition.result c.args.message.now (length c.args.out.now) in
    let f = forward_fits c.edition.result c.args.message.now _ _ (sym (rw c.in-Ok.is at c.read.ensures)) (omega arith) in
    let p = accepted_leaves _ o c.args.out.now c.args.view.now _ _ (has_room _ o (omega arith) f) c.forwarded.ensures c.show.ensures in
    rw (← c.edition.ensures) (record { answers = p.0; writes = p.1.0; shows = p.1.1 })
