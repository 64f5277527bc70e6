use Rattle.std.proofs.Common.{length, ◌/◌}
use Rattle.wire.proofs.Parts.{rest_part}
use Rattle.opmsg_name_slots.specs.Inner.{hash_of}
use Rattle.opmsg_name_slots.proofs.hash.Goals as goal

pub returns : goal.returns
unfolding hash_of
returns c =
    let text = c.args.text.now in
    rw (hash_of, ← rest_part (length text / 2) text, ← c.end_words-e.ensures.0, ← c.end_words-e.ensures.1, ← c.word.ensures) c.mixed.ensures
