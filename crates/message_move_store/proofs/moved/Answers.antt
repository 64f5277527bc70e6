-- Header, flag word, sections and checksum are stored one behind the other.
use Rattle.message_move_store.specs.Inner.{laid}
use Rattle.message_move_store.proofs.Laid.{message_stored}
use Rattle.message_move_store.proofs.moved.Goals as goal

pub returns : goal.returns
returns c =
    let a = c.args in
    let e = c.sections-end.ensures in
    message_stored a.s.now (laid a.s.now a.entries.now) a.out.now a.flags c.requires.0 c.requires.1 _ c.put.ensures c.put_word.ensures e.stores e.ends c.seal.ensures
