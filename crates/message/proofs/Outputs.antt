-- What a call that writes answers and leaves, by what it decides.
-- Assumes nothing.
use Rattle.std.proofs.Common.{◌≡◌, ℕ, List, ◌++◌, length, drop, refl}
use Rattle.wire.specs.Outcome.{Outcome, ok, refused, ◌>>=◌}
use Rattle.message.specs.Message.{Written, viewed, output}
use Rattle.message.specs.Inner.{decided}

module _ {number place : ℕ} (o : Outcome Written) (h : o ≡ refused number place) where
  pub viewed_refused : viewed o ≡ refused number place
  unfolding viewed ◌>>=◌
  viewed_refused = rw h

  pub output_refused : (old : List ℕ) → output o old ≡ old
  unfolding output
  output_refused old = rw h

  pub decided_refused : decided o ≡ refused number place
  unfolding decided ◌>>=◌
  decided_refused = rw h

module _ {w : Written} (o : Outcome Written) (h : o ≡ ok w) where
  pub viewed_ok : viewed o ≡ ok w.view
  unfolding viewed ◌>>=◌
  viewed_ok = rw h

  pub output_ok : (old : List ℕ) → output o old ≡ w.bytes ++ drop (length w.bytes) old
  unfolding output
  output_ok old = rw h

  pub decided_ok : decided o ≡ ok tt
  unfolding decided ◌>>=◌
  decided_ok = rw h

pub ruleset outputs = (viewed_refused, output_refused, decided_refused, viewed_ok, output_ok, decided_ok)
