use Rattle.std.proofs.Common.{rules, ◌≡◌, ◌∙◌, sym}
use Rattle.std.specs.Prelude.{count_by}
use Rattle.opmsg_view.proofs.Counting.{is_sequence, counted}
use Rattle.opmsg_view.proofs.sequence_count.Goals as goal

pub returns : goal.returns
returns c = let k : c.count.result ≡ count_by is_sequence c.args.v.entries = search rules in k ∙ sym (counted c.args.v)
