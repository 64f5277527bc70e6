-- The sequence is stored behind the sections that are shown.
use Rattle.std.proofs.Common.{rules}
use Rattle.message_append_checks.specs.Inner.{grown}
use Rattle.message_append.proofs.grown.Goals as goal

pub returns : goal.returns
unfolding grown
returns c = search (rules, c.sequence_at-section.ensures, c.requires.3)
