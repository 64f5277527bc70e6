-- The loop goes over a word's bytes, the highest first.
use Rattle.crc32c.proofs.Words.{FromTop}
use Rattle.crc32c.proofs.parts.near.Given as goal

abbrev pub invariant-loop-k : goal.invariant-loop-k
invariant-loop-k l = FromTop 0 0 l.x l.r l.k
