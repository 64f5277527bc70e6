-- The message was read, and there is room for it.
use Rattle.std.proofs.Common.{sym, arith}
use Rattle.message.specs.Forward.{forwarded}
use Rattle.message.proofs.Forwarding.{forward_fits}
use Rattle.message.proofs.Outputs.{viewed_ok, output_ok}
use Rattle.message_forward.proofs.forward.Goals as goal

pub returns : goal.returns
unfolding forwarded
returns c =
    let h = forward_fits c.args.e c.args.s.now _ c.in_ok-view.view (sym c.in_ok-view.ensures) (omega arith) in
    record { shows = sym (viewed_ok _ h); writes = rw (output_ok _ h) c.forwarded.ensures }
