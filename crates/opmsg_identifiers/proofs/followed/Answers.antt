use Rattle.std.proofs.Common.{sym, ◌∙◌, arith}
use Rattle.opmsg_dotted.proofs.Follow.{found_plain}
use Rattle.opmsg_identifiers.proofs.followed.Goals as goal

-- a text without a dot is its own last name
pub returns-then-until_dot-text : goal.returns-then-until_dot-text
returns-then-until_dot-text c = sym (found_plain _ _ (omega (arith, c.until_dot.ensures, c.if-until_dot-text.true)) ∙ c.requires.1)
