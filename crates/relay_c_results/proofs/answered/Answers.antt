-- The call's own refusal, the room for the view, and its numbers.
use Rattle.std.proofs.Common.{arith, ap, refl, length}
use Rattle.relay_c_results.specs.Numbers.{view_size}
use Rattle.relay_c_results.specs.Interface.{told_by, result_of, numbers}
use Rattle.relay_c_results.proofs.Room.{own_refusal, no_room, has_room}
use Rattle.relay_c_results.proofs.answered.Goals as goal

pub returns-then-view-lt-NUMBERS : goal.returns-then-view-lt-NUMBERS
unfolding result_of numbers view_size
returns-then-view-lt-NUMBERS g c =
    let told = told_by g.R.Numbered.number_of g.R.Numbered.place_of in
    rw (no_room (length c.args.view.now) (told c.args.reading) (omega arith) (ap told c.in-Ok.is)) (record { answers = rw c.from.ensures at c.refusal.ensures; shows = refl })

pub show-requires : goal.show-requires
unfolding view_size
show-requires g c = omega arith

pub returns-else-view-lt-NUMBERS : goal.returns-else-view-lt-NUMBERS
unfolding result_of numbers view_size
returns-else-view-lt-NUMBERS g c =
    let told = told_by g.R.Numbered.number_of g.R.Numbered.place_of in
    rw (has_room (length c.args.view.now) (told c.args.reading) (omega arith) (ap told c.in-Ok.is)) (record { answers = refl; shows = c.show.ensures })

pub refusal-requires-in-Err : goal.refusal-requires-in-Err
refusal-requires-in-Err g c = rw c.place.ensures (rw c.in-Err.is at c.requires)

pub returns-in-Err : goal.returns-in-Err
unfolding result_of numbers
returns-in-Err g c =
    let told = told_by g.R.Numbered.number_of g.R.Numbered.place_of in
    rw (own_refusal (length c.args.view.now) (told c.args.reading) (ap told c.in-Err.is)) (record { answers = rw (c.number.ensures, c.place.ensures) at c.refusal-in-Err.ensures; shows = refl })
