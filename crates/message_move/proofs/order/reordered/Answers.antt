-- Each turn puts one sequence to its entry, and the body goes to the one that is left.
use Rattle.std.proofs.Common.{rules, ◌≡◌, ◌<◌, length, arith}
use Rattle.opmsg.specs.Sections.{max_sequences}
use Rattle.message_move.proofs.Spots.{spot_near, orders_none, orders_room, orders_sequence, orders_other, orders_all}
use Rattle.message_move.proofs.order.reordered.Goals as goal
use Rattle.message_move.proofs.order.reordered.Goals.{in-Sequence, in_default}

pub loop-entry-init : goal.loop-entry-init
loop-entry-init c = rw c.no_entries-list.ensures (orders_none c.args.v c.args.behind)

-- there is an entry for the sequence
few : (c : goal.After-list-1) → c.loop-entry.count < 16
unfolding max_sequences
few c =
    let k = c.loop-entry in
    let long : length c.args.v.entries ≡ 17 = search rules in
    orders_room c.args.v c.args.behind k.entry-index k.count k.list k.invariant c.requires.1 (omega arith) c.in-Sequence.is

near : (c : goal.After-spot) → c.spot.result < 17
near c = omega (arith, few c.before, c.spot.ensures, spot_near c.loop-entry.count c.args.behind)

pub spot-requires : goal.spot-requires
spot-requires c = omega (arith, few c)

pub offset_bounds-list-spot : goal.offset_bounds-list-spot
offset_bounds-list-spot c = omega (arith, near c)

pub bounds-list-spot : goal.bounds-list-spot
bounds-list-spot c = near c

pub loop-entry-preserved : goal.loop-entry-preserved
loop-entry-preserved c =
    let a = c.args in
    let k = c.loop-entry in
    let long : length a.v.entries ≡ 17 = search rules in
    let l : k.entry-index < length a.v.entries = omega arith in
    elim c.match-entry.branch [
      | in-Sequence w ↦ rw (w.list-is, w.count-is, w.spot.ensures) (orders_sequence a.v a.behind k.entry-index k.count k.list k.invariant c.requires.1 l w.in-Sequence.is)
      | in_default w ↦ rw (w.list-is, w.count-is) (orders_other a.v a.behind k.entry-index k.count k.list k.invariant c.requires.1 l w.in_default.not-Sequence)
    ]

pub overflow_add-count : goal.overflow_add-count
overflow_add-count c = omega (arith, few c.before)

pub bounds-list-behind : goal.bounds-list-behind
unfolding max_sequences
bounds-list-behind c = omega (arith, c.requires)

pub offset_bounds-list-behind : goal.offset_bounds-list-behind
unfolding max_sequences
offset_bounds-list-behind c = omega (arith, c.requires)

pub returns : goal.returns
returns c =
    let k = c.loop-entry in
    let long : length c.args.v.entries ≡ 17 = search rules in
    rw c.body.ensures (orders_all c.args.v c.args.behind k.entry-index k.count k.list k.invariant (omega arith) c.requires.0)
