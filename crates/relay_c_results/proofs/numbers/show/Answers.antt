-- Five numbers are stored one after the other, and each turn stores those of one entry more.
use Rattle.std.proofs.Common.{rules, arith, refl}
use lib.ListN.{length-set}
use Rattle.opmsg.specs.declared.Section.TheVariants.{None}
use Rattle.relay_c_results.specs.Numbers.{section_numbers, view_size}
use Rattle.relay_c_results.proofs.Rows.{small, id_same, listed_none, listed_next, listed_all, all_shown}
use Rattle.relay_c_results.proofs.numbers.show.Goals as goal
use Rattle.relay_c_results.proofs.numbers.show.Goals.{in-None, in_default}

pub loop-i-init : goal.loop-i-init
unfolding view_size
loop-i-init c = listed_none (search rules) (simp length-set (omega (arith, c.requires)))

pub loop-i-preserved : goal.loop-i-preserved
unfolding section_numbers
loop-i-preserved c =
    let k = c.loop-i.invariant in
    elim c.match-section.branch [
      | in-None w ↦ rw w.out-is (listed_next k c.loop-i-test.true None w.in-None.is w.six.ensures)
      | in_default w ↦ rw w.out-is (listed_next k c.loop-i-test.true _ refl w.entry.ensures)
    ]

pub returns : goal.returns
unfolding view_size
returns c =
    let v = c.args.v.now in
    all_shown v c.args.out.now _ c.requires
    (small v.length (omega arith))
    (id_same v.request_id (record { sfits = search rules }))
    (id_same v.response_to (record { sfits = search rules }))
    (small v.flags (omega arith))
    (small v.elements (omega arith))
    (listed_all c.loop-i.invariant c.loop-i-test.false)
