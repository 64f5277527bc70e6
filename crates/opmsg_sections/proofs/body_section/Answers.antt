-- Each way out has its test, or what the document is.
use Rattle.std.proofs.Common.{arith}
use Rattle.std.proofs.lemmas.Result.{err_from_is_err_and}
use borrow.Author.Tests.{lt-ltb, le-ltb}
use Rattle.wire.specs.Outcome.{refuse, ◌>>=◌}
use Rattle.wire.proofs.Parts.{rest_part}
use Rattle.opmsg.specs.Sections.{body_section}
use Rattle.opmsg_sections.proofs.Reached.{body_reaches}
use Rattle.opmsg_sections.proofs.body_section.Goals as goal

pub returns-then-start-gt0-clause-is : goal.returns-then-start-gt0-clause-is
unfolding body_section ◌>>=◌ refuse
returns-then-start-gt0-clause-is c = rw c.at.ensures (λ p number k. rw (body_section, k.start_is, lt-ltb 0 c.args.start (omega arith)))

pub returns-in_err-body-clause-is : goal.returns-in_err-body-clause-is
unfolding body_section ◌>>=◌ refuse
returns-in_err-body-clause-is c =
    let r = err_from_is_err_and c.from_residual.result c.from_residual.ensures.1 in
    rw (r.1, r.2) (λ p number k. rw (body_section, k.start_is, le-ltb 0 c.args.start (omega arith), k.elements_is, ← rest_part 1 c.args.xs.now, ← c.in_err-body.ensures))

pub returns-clause-is : goal.returns-clause-is
unfolding body_section ◌>>=◌ refuse
returns-clause-is c p number k =
    rw (body_section, k.start_is, le-ltb 0 c.args.start (omega arith), k.elements_is, ← rest_part 1 c.args.xs.now, ← c.in_ok-body.ensures)

pub returns-clause-inside : goal.returns-clause-inside
returns-clause-inside c = body_reaches _ c.args.xs.now _ _ _ c.in_ok-body.ensures
