-- The loop goes over a word's bytes, the highest first.
use Rattle.crc32c.proofs.Words.{FromTop}
use Rattle.crc32c.proofs.parts.far.Given as goal

abbrev pub invariant-loop-k : goal.invariant-loop-k
invariant-loop-k l = FromTop 64 l.near l.x l.r l.k
