-- The first line, by its bytes.
use Rattle.std.proofs.Common.{◌∙◌, sym}
use Rattle.listing_stored.proofs.Versions.{begins_1, begins_2, begins_else}
use Rattle.listing_stored.proofs.version.Goals as goal

pub returns-then-starts_with : goal.returns-then-starts_with
returns-then-starts_with c = begins_1 c.args.s.now (sym c.starts_with.ensures.value ∙ c.if-starts_with.true)

pub returns-then-starts_with-2 : goal.returns-then-starts_with-2
returns-then-starts_with-2 c =
    begins_2 c.args.s.now
    (sym c.starts_with.ensures.value ∙ c.if-starts_with.false)
    (sym c.starts_with-2.ensures.value ∙ c.if-starts_with-2.true)

pub returns : goal.returns
returns c =
    begins_else c.args.s.now
    (sym c.starts_with.ensures.value ∙ c.if-starts_with.false)
    (sym c.starts_with-2.ensures.value ∙ c.if-starts_with-2.false)
