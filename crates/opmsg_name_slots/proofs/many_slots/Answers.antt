use Rattle.std.proofs.Common.{ℕ}
use lib.ListN.{length-replicate}
use Rattle.opmsg_name_slots.proofs.Slots.{all_zero}
use Rattle.opmsg_name_slots.proofs.many_slots.Goals as goal

pub returns : goal.returns
returns c = (all_zero 8224, length-replicate {A = ℕ} 8224 0)
