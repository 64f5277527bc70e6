-- What all lines tell is what those that are left tell; no line and no message is counted that was not read.
use Rattle.std.proofs.Common.{◌≡◌, ◌+◌, ◌≤◌, length}
use Rattle.std.specs.Slice.Iter.{split_inclusive_rest}
use Rattle.wire.specs.Outcome.{◌>>=◌}
use Rattle.listing_stored.specs.Inner.{limited, position_of, run, answered, all_lines}
use Rattle.listing_stored.proofs.lines.Given as goal

abbrev pub invariant-loop-whole : goal.invariant-loop-whole
invariant-loop-whole l = record {
  same : all_lines (limited l.v) l.s ≡ (run (limited l.v) (split_inclusive_rest l.whole-iterator) (position_of l.p) >>= answered (limited l.v));
  lines : l.p.line + length (split_inclusive_rest l.whole-iterator) ≤ length l.s + 2;
  messages : l.p.messages + length (split_inclusive_rest l.whole-iterator) ≤ length l.s;
  can_next : (goal.iterator-loop-whole).can_next l.whole-iterator;
  finite : (goal.iterator-loop-whole).is_finite l.whole-iterator;
}
