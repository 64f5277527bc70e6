-- A section that is read adds what the definition adds, and there is room for it.
use Rattle.std.proofs.Common.{Ok, ap, ◌∙◌, arith}
use Rattle.std.proofs.lemmas.Result.{err_from_is_err_and}
use Rattle.opmsg.specs.Sections.{max_sequences, max_sections}
use Rattle.opmsg_sections.proofs.Gather.{begins, gathered, refuses, body_room, adds_body, sequence_room, adds_sequence, fits}
use Rattle.opmsg_sections.proofs.sections.Goals as goal

pub loop-i-init : goal.loop-i-init
loop-i-init c = rw c.no_entries.ensures (begins c.args.e c.args.xs.now)

pub returns-in_err-size : goal.returns-in_err-size
returns-in_err-size c =
    let r = err_from_is_err_and c.from_residual.result c.from_residual.ensures.1 in
    rw (r.1, r.2) (refuses c.loop-i.invariant c.loop-i-test.true _ c.section.ensures.is c.section.ensures.inside _ c.in_err-size.was)

pub bounds-entries-used : goal.bounds-entries-used
unfolding max_sections
bounds-entries-used c = body_room c.loop-i.invariant c.loop-i-test.true _ c.section.ensures.is c.section.ensures.inside (c.in_ok-size.was ∙ ap Ok c.in-Body.is)

pub loop-i-preserved-in-Body : goal.loop-i-preserved-in-Body
loop-i-preserved-in-Body c = adds_body c.loop-i.invariant c.loop-i-test.true _ c.section.ensures.is c.section.ensures.inside (c.in_ok-size.was ∙ ap Ok c.in-Body.is)

pub offset_bounds-entries-used : goal.offset_bounds-entries-used
offset_bounds-entries-used c = omega (arith, bounds-entries-used c)

pub overflow_add-used : goal.overflow_add-used
overflow_add-used c = omega (arith, bounds-entries-used c)

pub bounds-entries-used-in-Sequenced : goal.bounds-entries-used-in-Sequenced
unfolding max_sections
bounds-entries-used-in-Sequenced c = sequence_room c.loop-i.invariant c.loop-i-test.true _ c.section.ensures.is c.section.ensures.inside (c.in_ok-size.was ∙ ap Ok c.in-Sequenced.is)

pub loop-i-preserved : goal.loop-i-preserved
loop-i-preserved c = adds_sequence c.loop-i.invariant c.loop-i-test.true _ c.section.ensures.is c.section.ensures.inside (c.in_ok-size.was ∙ ap Ok c.in-Sequenced.is)

pub offset_bounds-entries-used-in-Sequenced : goal.offset_bounds-entries-used-in-Sequenced
offset_bounds-entries-used-in-Sequenced c = omega (arith, bounds-entries-used-in-Sequenced c)

pub overflow_add-used-in-Sequenced : goal.overflow_add-used-in-Sequenced
overflow_add-used-in-Sequenced c = omega (arith, bounds-entries-used-in-Sequenced c)

pub overflow_add-sequences : goal.overflow_add-sequences
unfolding max_sequences
overflow_add-sequences c = omega (arith, c.loop-i.invariant.few)

pub returns : goal.returns
returns c =
    let k = c.loop-i.invariant in
    record {
      parts = k.parts;
      read = gathered k c.loop-i-test.false;
      shows = k.shows;
      elements_is = k.elements_is;
      few = fits k;
      near = omega (arith, k.near, k.within);
      filled = k.filled;
    }
