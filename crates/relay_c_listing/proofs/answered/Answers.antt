-- Two numbers are stored where there is room for them.
use Rattle.std.proofs.Common.{length, refl, rules}
use Rattle.relay_c_results.specs.Interface.{result_of}
use Rattle.relay_c_listing.specs.Interface.{listing_numbers}
use Rattle.relay_c_listing.proofs.Room.{no_room, room, same_signed, two_stored}
use Rattle.relay_c_listing.proofs.answered.Goals as goal

pub returns-then-answer-lt2-clause-answers : goal.returns-then-answer-lt2-clause-answers
unfolding result_of
returns-then-answer-lt2-clause-answers c = rw (no_room (length c.args.answer.now) _ c.if-answer-lt2.true) (rw c.from.ensures at c.refusal.ensures)

pub returns-then-answer-lt2-clause-shows : goal.returns-then-answer-lt2-clause-shows
unfolding listing_numbers
returns-then-answer-lt2-clause-shows c = rw (no_room (length c.args.answer.now) _ c.if-answer-lt2.true) refl

pub returns-clause-answers : goal.returns-clause-answers
unfolding result_of
returns-clause-answers c = rw (room (length c.args.answer.now) _ c.if-answer-lt2.false) refl

pub returns-clause-shows : goal.returns-clause-shows
unfolding listing_numbers
returns-clause-shows c =
    let a = c.args in
    rw (room (length a.answer.now) _ c.if-answer-lt2.false, same_signed a.listing.version (search rules), same_signed a.listing.messages c.requires)
    (two_stored a.answer.now _ _ c.if-answer-lt2.false)
