-- Each turn gives one section more its place.
use Rattle.std.proofs.Common.{List, ℕ, ◌+◌, ◌^◌, ◌<◌, ◌≡◌, length, arith, ap, w32, rules}
use mir.Facts.{to_z-of_z}
use Rattle.std.proofs.lemmas.List.{take_all}
use Rattle.opmsg.specs.Sections.{max_sections, section_size}
use Rattle.opmsg.specs.Inner.{first_sections}
use Rattle.opmsg.specs.declared.Entry.{Entry}
use Rattle.opmsg.proofs.Entries.{said_at}
use Rattle.message_move.specs.Inner.{said, total_size, with_sections}
use Rattle.message_move.proofs.Placing.{places_none, places_next, total_within}
use Rattle.message_move.proofs.order.moved_view.Goals as goal

pub loop-i-init : goal.loop-i-init
loop-i-init c = rw c.no_entries-entries.ensures (places_none c.args.used.now)

-- the next section fits
next_fits : (used : List Entry) (i at : ℕ) → i < length used → at ≡ 20 + total_size (first_sections i used) → 20 + total_size (said used) < 2 ^ 32
    → at + section_size (said_at used i) < 2 ^ 32
next_fits used i at more is small =
    let all = ap (λ (l : List Entry). total_size (said l)) (take_all (length used) used (omega arith)) in
    omega (arith, all, total_within used i more (length used) (omega arith))

pub placed-requires : goal.placed-requires
placed-requires c = next_fits c.args.used.now c.loop-i.i c.loop-i.at c.loop-i-test.true c.loop-i.invariant.0 c.requires.1

pub overflow_add-at : goal.overflow_add-at
overflow_add-at c = omega (arith, c.section_size-at.ensures, next_fits c.args.used.now c.loop-i.i c.loop-i.at c.loop-i-test.true c.loop-i.invariant.0 c.requires.1)

pub loop-i-preserved : goal.loop-i-preserved
unfolding max_sections
loop-i-preserved c =
    let k = c.loop-i in
    rw (c.section_size-at.ensures, c.placed.ensures) (places_next c.args.used.now k.i (omega arith) k.at k.entries (omega arith) k.invariant)

pub returns : goal.returns
unfolding with_sections
returns c =
    let v = c.args.v.now in
    let k = c.loop-i in
    let first = to_z-of_z {w = w32} {z = v.request_id} (record { sfits = search rules }) in
    let second = to_z-of_z {w = w32} {z = v.response_to} (record { sfits = search rules }) in
    rw (first, second, with_sections, ← take_all k.i c.args.used.now (omega arith), ← k.invariant.1)
