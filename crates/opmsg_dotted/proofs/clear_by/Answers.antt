-- `opmsg_dotted::clear_by` meets its contract.
-- Assumes nothing.
use Rattle.std.proofs.Common.{◌≡◌, ◌+◌, ◌-◌, length, take, drop}
use native.Mathlib.Omega.{arith}
use lib.ListN.{length-drop}
use lib.Seq.{length-take-le}
use Rattle.opmsg_dotted.proofs.FirstName.{undotted_within}
use Rattle.opmsg_dotted.proofs.clear_by.Goals as goal

pub loop-i-preserved : goal.loop-i-preserved
loop-i-preserved c =
    let text = c.args.text.now in
    let i = c.loop-i.i in
    let k = i + c.args.n - i in
    let long : length (take k (drop i text)) ≡ c.args.n = omega (arith, length-take-le k (drop i text) (omega (arith, length-drop i text))) in
    (omega arith, undotted_within i i c.args.n k text (omega arith) (omega arith) c.loop-i.invariant.1 (rw long at (c.clear.ensures c.if-not-clear.false)))

-- the last n bytes begin among those that were passed
pub returns : goal.returns
returns c = λ e.
    let text = c.args.text.now in
    let m = length text - c.args.n in
    let k = length text - m in
    let long : length (take k (drop m text)) ≡ c.args.n = omega (arith, length-take-le k (drop m text) (omega (arith, length-drop m text))) in
    let all : m + c.args.n ≡ length text = omega (arith, c.requires) in
    rw all at (undotted_within c.loop-i.i m c.args.n k text (omega arith) (omega arith) c.loop-i.invariant.1 (rw long at (c.clear-2.ensures e)))
