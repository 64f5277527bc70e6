-- The turns that were taken used at most a buffer's bytes each, and one message.
use Rattle.std.proofs.Common.{◌≡◌, ◌-◌, length}
use Rattle.listing.specs.Next.{buffer_length}
use Rattle.relay_log.specs.Inner.{turns, Going}
use Rattle.relay_log.proofs.list.Given as goal

abbrev pub invariant-loop : goal.invariant-loop
invariant-loop g l = record {
  going : Going l.p (turns - l.counter);
  long : buffer_length ≡ length l.buf;
}
