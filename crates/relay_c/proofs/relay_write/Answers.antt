-- What writing decides, or what it answers and writes, where there is room for the view.
use Rattle.std.proofs.Common.{length}
use mir.Facts.{to_z-of_z}
use Rattle.message.specs.Write.{write}
use Rattle.message.proofs.Refusals.{refusals_bounded}
use Rattle.relay_c_results.specs.Numbers.{view_size}
use Rattle.relay_c_results.proofs.Room.{told_is}
use Rattle.relay_c.proofs.Results.{short, answers}
use Rattle.relay_c.proofs.Tells.{viewed_placed, decided_placed}
use Rattle.relay_c.proofs.relay_write.Goals as goal

pub without_view-requires : goal.without_view-requires
without_view-requires c = decided_placed _ c.check.result (refusals_bounded.writes _ _ _ _ _ _) (c.check.ensures c.args.request_id c.args.response_to)

pub returns-then-view-lt-NUMBERS : goal.returns-then-view-lt-NUMBERS
unfolding view_size
returns-then-view-lt-NUMBERS c =
    let o = write c.edition-e.result c.args.request_id c.args.response_to c.args.flags c.args.body.now (length c.args.out.now) in
    let p = short (length c.args.view.now) o c.check.result c.args.out.now c.args.view.now c.if-view-lt-NUMBERS.true (c.check.ensures c.args.request_id c.args.response_to) (rw told_is at c.without_view.ensures) in
    rw (← c.edition-e.ensures) (record { answers = p.0; writes = p.1.0; shows = p.1.1 })

pub answered-requires : goal.answered-requires
answered-requires c = viewed_placed _ c.write.result (refusals_bounded.writes _ _ _ _ _ _) (rw (to_z-of_z c.ranges.request_id, to_z-of_z c.ranges.response_to) at c.write.ensures.shows)

pub returns : goal.returns
unfolding view_size
returns c =
    let o = write c.edition-e.result c.args.request_id c.args.response_to c.args.flags c.args.body.now (length c.args.out.now) in
    let told_all = rw told_is at c.answered.ensures in
    let i = to_z-of_z c.ranges.request_id in
    let j = to_z-of_z c.ranges.response_to in
    let p = answers (length c.args.view.now) o c.args.out.now _ c.args.view.now _ c.write.result c.if-view-lt-NUMBERS.false (rw (i, j) at c.write.ensures.shows) (rw (i, j) at c.write.ensures.writes) told_all.answers told_all.shows in
    rw (← c.edition-e.ensures) (record { answers = p.0; writes = p.1.0; shows = p.1.1 })
