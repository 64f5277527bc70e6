use Rattle.std.proofs.Common.{sym, ◌∙◌}
use Rattle.opmsg_body_names.proofs.Elements.{all_names}
use Rattle.opmsg_identifiers.proofs.met.Goals as goal

pub returns-then-named : goal.returns-then-named
returns-then-named c = rw (rw (all_names _ c.requires) at (sym c.named.ensures ∙ c.if-named.true)) c.if-named.true

pub returns-else-named : goal.returns-else-named
returns-else-named c = rw (rw (all_names _ c.requires) at (sym c.named.ensures ∙ c.if-named.false)) c.identified.ensures
