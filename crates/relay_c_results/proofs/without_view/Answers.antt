-- The call's own refusal, or 25.
use Rattle.std.proofs.Common.{arith, ap}
use Rattle.relay_c_results.specs.Numbers.{view_size}
use Rattle.relay_c_results.specs.Interface.{told_by, result_of}
use Rattle.relay_c_results.proofs.Room.{own_refusal, no_room}
use Rattle.relay_c_results.proofs.without_view.Goals as goal

pub refusal-requires-in-Err : goal.refusal-requires-in-Err
refusal-requires-in-Err g c = rw c.place.ensures (rw c.in-Err.is at c.requires)

pub returns-in-Ok : goal.returns-in-Ok
unfolding result_of view_size
returns-in-Ok g c =
    let told = told_by g.R.Numbered.number_of g.R.Numbered.place_of in
    rw (no_room 0 (told c.args.decided) (omega arith) (ap told c.in-Ok.is)) (rw c.from.ensures at c.refusal.ensures)

pub returns-in-Err : goal.returns-in-Err
unfolding result_of
returns-in-Err g c =
    let told = told_by g.R.Numbered.number_of g.R.Numbered.place_of in
    rw (own_refusal 0 (told c.args.decided) (ap told c.in-Err.is)) (rw (c.number.ensures, c.place.ensures) at c.refusal-in-Err.ensures)
