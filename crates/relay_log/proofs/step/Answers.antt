-- A turn uses bytes at hand alone, and where it asks for more there is room for them.
use Rattle.std.proofs.Common.{◌≡◌, ◌∙◌, sym, ◌-◌, ◌≤◌, ◌<◌, List, ℕ, true, length, arith}
use Rattle.listing_input.proofs.Held.{at_hand}
use Rattle.listing.specs.Next.{buffer_length}
use Rattle.listing.specs.Run.{turn}
use Rattle.listing.specs.declared.Turn.{Turn}
use Rattle.listing.proofs.Taken.{turn_forth}
use Rattle.relay_log.specs.Inner.{held, Held, Taken}
use Rattle.relay_log.specs.declared.Progress.{Progress}
use Rattle.relay_log.proofs.Steps.{took_on, took_more}
use Rattle.relay_log.proofs.step.Goals as goal

-- what is known of a turn: it uses at most the bytes at hand, and where it asks for more the buffer has room
goes : (p : Progress) (buf : List ℕ) (t : Turn) → Held p → buffer_length ≡ length buf → Taken (turn p.run p.window.ended (held p buf)) t
    → (t.used ≤ p.window.end - p.window.at) × (t.more ≡ true → p.window.end - p.window.at - t.used < buffer_length)
goes p buf t h e s =
    let f = turn_forth p.run p.window.ended (held p buf) h.inside in
    let n = at_hand buf (rw e at h.lies) in
    (omega (arith, f.fits, s.used), λ m. omega (arith, f.room (sym s.more ∙ m), s.used))

pub overflow_add-window : goal.overflow_add-window
overflow_add-window g c =
    let k = goes c.args.p c.args.buf.now c.show-printed.result.0 c.requires.0 c.requires.1 c.show-printed.ensures in
    omega (arith, k.0, c.requires.0.lies, c.requires.1)

pub filled-window-requires : goal.filled-window-requires
filled-window-requires g c =
    let k = goes c.args.p c.args.buf.now c.show-printed.result.0 c.requires.0 c.requires.1 c.show-printed.ensures in
    omega (arith, k.0, k.1 c.if-t.true, c.requires.0.lies, c.requires.1)

pub returns-then-t-clause-took : goal.returns-then-t-clause-took
returns-then-t-clause-took g c =
    let s = c.show-printed.ensures in
    let read = c.filled-window in
    rw read.ensures.told (took_more _ c.args.p c.args.buf.now _ _ _ s.used s.run _ _ (sym s.more ∙ c.if-t.true) read.ensures.front read.ensures.inside.0)

pub returns-clause-took : goal.returns-clause-took
returns-clause-took g c =
    let s = c.show-printed.ensures in
    took_on _ c.args.p c.args.buf.now _ _ _ s.used s.run (sym s.more ∙ c.if-t.false)

pub returns-clause-lies : goal.returns-clause-lies
returns-clause-lies g c =
    let k = goes c.args.p c.args.buf.now c.show-printed.result.0 c.requires.0 c.requires.1 c.show-printed.ensures in
    record { order = omega (arith, k.0, c.requires.0.lies); within = c.requires.0.lies.within }
