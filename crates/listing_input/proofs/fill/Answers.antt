-- `listing_input::fill` meets its contract: the bytes at hand are moved to the front, and what is read stands behind them.
-- Assumes nothing.
use Rattle.std.proofs.Common.{◌≡◌, ◌-◌, ◌<◌, ◌≤◌, ℕ, List, length}
use mathlib.Core.Path.{◌∙◌, ap}
use native.Mathlib.Omega.{arith}
use lib.ListN.{take, drop}
use borrow.Rule.Slice.PartMut.{put_mid, take_put}
use Rattle.listing_buffer.specs.Front.{to_front}
use Rattle.listing_buffer.proofs.Front.{at_front}
use Rattle.listing_input.proofs.fill.Goals as goal

kept_front : (at end : ℕ) (old moved read : List ℕ) → at ≤ end → end ≤ length old → end - at < length moved → moved ≡ to_front at end old
    → take (end - at) (put_mid (end - at) (length moved - (end - at)) moved read) ≡ take (end - at) (drop at old)
kept_front at end old moved read h k l e =
    take_put (end - at) (length moved - (end - at)) moved read (omega arith) ∙ ap (take (end - at)) e ∙ at_front at end old h k

pub returns-in-Ok-clause-front : goal.returns-in-Ok-clause-front
returns-in-Ok-clause-front g c =
    kept_front c.args.at c.args.end c.args.buf.now c.to_front.new.s c.read.new.buf c.requires.0 c.requires.1 (omega arith) c.to_front.ensures

pub returns-in-Err-clause-front : goal.returns-in-Err-clause-front
returns-in-Err-clause-front g c =
    kept_front c.args.at c.args.end c.args.buf.now c.to_front.new.s c.read.new.buf c.requires.0 c.requires.1 (omega arith) c.to_front.ensures
