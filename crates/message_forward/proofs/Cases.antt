-- What forwarding answers and leaves, case by case.
-- Assumes nothing.
use Rattle.message.proofs.Forwarding.{forward_refused, forward_short, forward_fits}
use Rattle.message.proofs.Outputs.{viewed_refused, output_refused, viewed_ok, output_ok}

pub ruleset cases = (forward_refused, forward_short, forward_fits, viewed_refused, output_refused, viewed_ok, output_ok)
