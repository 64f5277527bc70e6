-- `utf8_text::runs::narrow` meets its contract: a run of pairs, and blocks behind it.
-- Assumes nothing.
use borrow.Author.Rules.{rules}
use Rattle.utf8_text.proofs.Passing.{none_passes, passes_part}
use Rattle.utf8_text.proofs.runs.narrow.Statement.{statement}
use Rattle.utf8_text.proofs.runs.narrow.Tie as tie

pairs-and-blocks : tie.Need-returns
pairs-and-blocks c =
    let p = c.before.before.before in
    passes_part _ _ p.before.before.before.before.args.s.now p.pairs-i.ensures c.blocks-2.ensures

pub narrow_spec : {M : Type 1} → statement M
narrow_spec =
    tie.close
    (tie.spec
    (λ c. none_passes _)
    (λ c. search rules)
    (λ c κs. search rules)
    (λ c. c.pairs.ensures)
    (λ c κs. search rules)
    (λ c. c.before.pairs-i.ensures)
    (λ c. search rules)
    (λ c. search rules)
    (λ c. search rules)
    (λ c κs. search rules)
    (λ c. search rules)
    pairs-and-blocks)
