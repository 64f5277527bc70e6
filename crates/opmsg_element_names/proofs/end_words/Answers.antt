use Rattle.std.proofs.Common.{◌≡◌, ◌-◌, length, arith}
use Rattle.wire.proofs.Parts.{rest_part}
use Rattle.opmsg_element_names.specs.Inner.{last_word}
use Rattle.opmsg_element_names.proofs.end_words.Goals as goal

pub returns-then-text-lt4 : goal.returns-then-text-lt4
unfolding last_word
returns-then-text-lt4 c =
    let start : length c.args.text.now - 4 ≡ 0 = omega arith in
    (c.word-all.ensures, rw (last_word, start) c.word-all.ensures)

pub returns : goal.returns
unfolding last_word
returns c = let text = c.args.text.now in (c.word.ensures, rw (last_word, ← rest_part (length text - 4) text) c.word-2.ensures)
