use Rattle.std.proofs.Common.{◌≡◌, ℕ, List, length, ap, ◌∙◌, arith}
use Rattle.opmsg_element_names.proofs.Ordering.{name_without_zero}
use Rattle.opmsg_name_slots.specs.Inner.{home_of, Free}
use Rattle.opmsg_name_slots.proofs.Slots.{home_small, slotted_none, slotted_all, slotted_read, slotted_seen, slotted_more}
use Rattle.opmsg_name_slots.proofs.by_slots.Goals as goal

pub loop-i-init : goal.loop-i-init
loop-i-init c = slotted_none _ _ c.requires.2

pub look-requires : goal.look-requires
look-requires c =
    let k = c.loop-i.invariant in
    let p = c.requires in
    (k.inside, rw c.home-start.ensures (home_small _ _ (omega (arith, k.size_is, p.3))), p.1, rw c.name-text.ensures (name_without_zero _))

pub returns-in-Known : goal.returns-in-Known
returns-in-Known c = slotted_seen _ _ _ _ c.requires.0 c.loop-i.invariant c.loop-i-test.true (rw c.name-text.ensures at c.in-Known.ensures)

pub next-i-requires : goal.next-i-requires
next-i-requires c = (slotted_read _ _ _ _ c.requires.0 c.loop-i.invariant c.loop-i-test.true, ap length c.name-text.ensures)

-- a free slot for a text that is known, from where it is known to start
free : (xs slots text text' : List ℕ) (start start' j : ℕ) → text ≡ text' → start ≡ start' → Free xs slots text start j → Free xs slots text' start' j
free xs slots text text' start start' j e f h = rw (e, f) at h

pub loop-i-preserved : goal.loop-i-preserved
loop-i-preserved c =
    let k = c.loop-i.invariant in
    let start = c.home-start.ensures ∙ ap (λ (n : ℕ). home_of n c.name-text.result.now) k.size_is ∙ ap (home_of (length c.args.slots.now)) c.name-text.ensures in
    slotted_more _ _ _ _ c.requires.0 k c.loop-i-test.true _ (free _ _ _ _ _ _ _ c.name-text.ensures start c.in-Open.ensures) _ c.next-i.ensures.is

pub returns : goal.returns
returns c = slotted_all _ _ _ _ c.requires.0 c.loop-i.invariant c.loop-i-test.false
