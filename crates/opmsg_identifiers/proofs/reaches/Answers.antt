use Rattle.std.proofs.Common.{sym, ◌∙◌, arith}
use lib.Seq.{length-take-le}
use Rattle.opmsg_body_names.proofs.Distinct.{no_mark}
use Rattle.opmsg_dotted.proofs.FirstName.{dot_fits}
use Rattle.opmsg_dotted.proofs.Follow.{found_plain, found_nowhere}
use Rattle.opmsg_identifiers.proofs.reaches.Goals as goal

-- a text without a dot is its own last name
pub returns-then-n-text : goal.returns-then-n-text
returns-then-n-text c = sym (found_plain _ _ (omega (arith, c.until_dot-n.ensures, c.if-n-text.true)) ∙ c.requires.2)

pub slice_bounds-is_marked-end : goal.slice_bounds-is_marked-end
slice_bounds-is_marked-end c = sym (length-take-le _ _ (rw c.until_dot-n.ensures (dot_fits _)))

-- no element has a first name that has no mark
pub returns-else-is_marked : goal.returns-else-is_marked
returns-else-is_marked c =
    c.if-is_marked.false
    ∙ sym (found_nowhere c.args.text.now c.args.elements.now c.requires.0 (omega (arith, c.until_dot-n.ensures, c.if-n-text.false, dot_fits c.args.text.now))
    (no_mark _ c.requires.1 (rw c.until_dot-n.ensures at (sym c.is_marked.ensures ∙ c.if-is_marked.false))))
