-- The version, and the lines behind its first.
use Rattle.std.proofs.Common.{◌≤◌, ◌∙◌, length, sym, rules}
use Rattle.wire.proofs.Parts.{rest_part}
use Rattle.listing_stored.specs.Inner.{limited}
use Rattle.listing_stored.proofs.Versions.{read_none, long_enough, read_lines}
use Rattle.listing_stored.proofs.Turns.{told_wrong}
use Rattle.listing_stored.proofs.read_listing.Goals as goal

long : (c : goal.In_ok-v) → 12 ≤ length c.args.s.now
long c = long_enough c.args.s.now (limited c.in_ok-v.v) (rw c.in_ok-v.ensures.ok_part at c.version.ensures)

pub returns-in_err-v-clause-is : goal.returns-in_err-v-clause-is
returns-in_err-v-clause-is c =
    told_wrong c.from_residual.result c.from_residual.ensures.1 (let e = rw c.in_err-v.ensures.ok_part at c.in_err-v.ensures.value in cc)
    ∙ sym (read_none c.args.s.now (rw c.in_err-v.ensures.ok_part at c.version.ensures))

pub slice_bounds-lines-count : goal.slice_bounds-lines-count
slice_bounds-lines-count c = long c

pub slice_bounds-lines-start : goal.slice_bounds-lines-start
slice_bounds-lines-start c = let h = long c in search rules

pub returns-clause-is : goal.returns-clause-is
returns-clause-is c =
    rw rest_part at c.lines.ensures.is ∙ sym (read_lines c.args.s.now (limited c.in_ok-v.v) (rw c.in_ok-v.ensures.ok_part at c.version.ensures))
