-- Each turn passed at most a line and a message.
use Rattle.std.proofs.Common.{◌*◌, ◌≤◌, ◌≡◌, length}
use Rattle.listing_check.specs.Inner.{counted}
use Rattle.relay_log_check.specs.Inner.{buffer_length, Lies}
use Rattle.relay_log_check.proofs.read_all.Given as goal

abbrev pub invariant-loop : goal.invariant-loop
invariant-loop g l = Lies l.p × (buffer_length ≡ length l.buf) × (counted l.p.standing ≤ 2 * l.counter)
