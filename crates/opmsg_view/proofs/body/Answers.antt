use Rattle.std.proofs.Common.{◌∙◌, arith, rules}
use Rattle.opmsg_view.proofs.Counting.{behind}
use Rattle.opmsg_view.proofs.body.Goals as goal

pub loop-entry-preserved : goal.loop-entry-preserved
loop-entry-preserved c =
    let i = c.loop-entry.invariant in
    (i.0, i.1 ∙ behind c.args.v.entries c.loop-entry.entry-index (omega arith) (search rules))
