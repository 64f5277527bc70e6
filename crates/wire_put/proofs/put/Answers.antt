-- `wire_put::put` meets its contract: where the bytes fit, they are copied into the part from there on.
-- Assumes nothing.
use Rattle.std.proofs.Common.{◌≡◌, ◌+◌, ◌-◌, length}
use mathlib.Core.Path.{sym}
use mathlib.Core.List.{append_assoc}
use native.Mathlib.Omega.{arith}
use lib.ListN.{take, drop}
use lib.Seq.{drop-drop}
use Rattle.wire.proofs.Parts.{put_fits}
use Rattle.wire_put.proofs.put.Goals as goal

pub returns : goal.returns
returns c =
    let e : c.args.at + length c.args.s.now - c.args.at ≡ length c.args.s.now = omega arith in
    rw (c.copy_from_slice.ensures.after, e, drop-drop (length c.args.s.now) c.args.at c.args.out.now, put_fits c.args.at c.args.s.now c.args.out.now (omega arith))
    (sym (append_assoc (take c.args.at c.args.out.now) c.args.s.now (drop (c.args.at + length c.args.s.now) c.args.out.now)))
