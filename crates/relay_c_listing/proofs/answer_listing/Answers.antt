-- A wrong line is refused before room is asked for.
use Rattle.std.proofs.Common.{refl}
use Rattle.relay_c_results.specs.Interface.{result_of}
use Rattle.relay_c_listing.specs.Interface.{listing_numbers}
use Rattle.relay_c_listing.proofs.Room.{refused_first}
use Rattle.relay_c_listing.proofs.answer_listing.Goals as goal

pub returns-in-Err-clause-answers : goal.returns-in-Err-clause-answers
unfolding result_of
returns-in-Err-clause-answers c = rw (← c.in-Err.ensures.is, refused_first) refl

pub returns-in-Err-clause-shows : goal.returns-in-Err-clause-shows
unfolding listing_numbers
returns-in-Err-clause-shows c = rw (← c.in-Err.ensures.is, refused_first) refl
