-- `crc32c::parts::sixteen` meets its contract, by the law of two words.
-- Assumes nothing.
use Rattle.std.proofs.Common.{◌≡◌, ◌/◌, ◌∷◌, [], length, take, drop}
use mathlib.Core.Path.{refl, sym, ◌∙◌}
use native.Mathlib.Omega.{arith}
use lib.Seq.{drop-drop}
use Rattle.crc32c.proofs.Words.{word_of, register_sixteen}
use Rattle.crc32c.proofs.parts.sixteen.Goals as goal

pub returns : goal.returns
returns c =
    let s = c.args.s.now in
    let four : length s / 4 ≡ 4 = omega (arith, c.told-s) in
    let halves : c.as_chunks.result.0.now ≡ take 4 s ∷ take 4 (drop 4 s) ∷ take 4 (drop 8 s) ∷ take 4 (drop 4 (drop 8 s)) ∷ [] =
    c.as_chunks.ensures.front ∙ rw (four, drop-drop 4 4 s) refl in
    let first : c.word-first.result ≡ word_of s = rw halves at c.word-first.ensures in
    let second : c.word-second.result ≡ word_of (drop 8 s) = rw halves at c.word-second.ensures in
    rw (c.far.ensures, c.near.ensures, c.from.ensures) (sym (register_sixteen c.args.register _ _ s c.told-s c.fits-s first second))
