-- The kind byte decides.
use Rattle.std.proofs.Common.{◌≡◌, get_or, arith, rules}
use borrow.Author.Tests.{ne_eqb}
use Rattle.wire.specs.Outcome.{refuse, ◌>>=◌}
use Rattle.opmsg.specs.Flags.{knows}
use Rattle.opmsg.specs.Sections.{section_of, section_at}
use Rattle.opmsg_sections.proofs.section.Goals as goal
use Rattle.opmsg_sections.proofs.section.Goals.{in_default-via-in-1+else-e, in_default-via-in_default-1}

pub returns-in-0-clause-is : goal.returns-in-0-clause-is
unfolding section_at section_of knows ◌>>=◌ refuse
returns-in-0-clause-is c p k = let e : get_or c.args.xs.now 0 0 ≡ 0 = omega arith in rw (section_at, section_of, knows, e) (c.body_section.ensures.is p _ k)

pub returns-in-1-clause-is : goal.returns-in-1-clause-is
unfolding section_at section_of knows ◌>>=◌ refuse
returns-in-1-clause-is c p k = let e : get_or c.args.xs.now 0 0 ≡ 1 = omega arith in rw (section_at, section_of, knows, e, c.if-e.true) (c.sequence_section.ensures.is p _ k)

pub returns-in_default-clause-is : goal.returns-in_default-clause-is
unfolding section_at section_of knows ◌>>=◌ refuse
returns-in_default-clause-is c =
    rw c.at.ensures
    (λ p k.
    elim c.in_default.branch [
      | in_default-via-in-1+else-e w ↦ let e : get_or c.args.xs.now 0 0 ≡ 1 = omega arith in rw (section_at, knows, e, w.if-e.false)
      | in_default-via-in_default-1 w ↦ let kind = get_or c.args.xs.now 0 0 in rw (section_at, knows, ne_eqb kind 0 (search rules), ne_eqb kind 1 (search rules))
    ])
