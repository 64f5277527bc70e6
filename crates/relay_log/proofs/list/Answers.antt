-- A run with a turn left is near enough to its start, and behind a turn one fewer is left.
use Rattle.std.proofs.Common.{◌≡◌, ◌+◌, ◌-◌, ◌<◌, ℕ, List, length, rules, arith}
use Rattle.listing_input.proofs.Held.{at_hand}
use Rattle.listing.specs.Next.{buffer_length}
use Rattle.listing.specs.Run.{turn}
use Rattle.listing.proofs.Taken.{turn_forth}
use Rattle.relay_log.specs.Inner.{turns, held, Lies, Held, Took, Going}
use Rattle.relay_log.specs.declared.Progress.{Progress}
use Rattle.relay_log.proofs.list.Goals as goal

-- a run with a turn left is near enough to its start
near : (p : Progress) (left : ℕ) → Going p left → 0 < left → Held p
unfolding buffer_length
near p left g l = record {
  lies = g.lies;
  inside = g.inside;
  near = record { offset = omega (arith, g.offset, g.inside); messages = omega (arith, g.messages) };
}

-- one turn fewer is left
goes_on : (p r : Progress) (old new : List ℕ) (left : ℕ) → Going p left → 0 < left → buffer_length ≡ length old → Took (turn p.run p.window.ended (held p old)) p old r new → Lies r → Going r (left - 1)
unfolding buffer_length
goes_on p r old new left g l e took lies =
    let f = turn_forth p.run p.window.ended (held p old) g.inside in
    let n = at_hand old (rw e at g.lies) in
    record {
      lies = lies;
      inside = rw took.run f.inside;
      offset = rw took.run (omega (arith, f.offset, f.fits, g.offset, g.lies.within));
      messages = rw took.run (omega (arith, f.messages, g.messages));
    }

pub step-p-requires : goal.step-p-requires
step-p-requires g c = (near c.loop.p _ c.loop.invariant.going (omega arith), c.loop.invariant.long)

pub loop-preserved : goal.loop-preserved
loop-preserved g c =
    let l = c.loop in
    let n : turns - l.counter - 1 ≡ turns - (l.counter + 1) = omega arith in
    record {
      going = rw n at (goes_on l.p c.step-p.result l.buf _ (turns - l.counter) l.invariant.going (omega arith) l.invariant.long c.step-p.ensures.took c.step-p.ensures.lies);
      long = search rules;
    }
