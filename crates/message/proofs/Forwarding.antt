-- What forwarding answers: reading's refusal, 25, or the message.
-- Assumes nothing.
use Prim.Native.Nat.{ℕ, ◌<◌, ◌≤◌}
use mathlib.Core.Path.{◌≡◌, ◌∙◌}
use mathlib.Core.List.{List}
use borrow.Author.Tests.{lt-ltb, le-ltb}
use Rattle.wire.specs.Outcome.{ok, refused}
use Rattle.wire.proofs.Outcome.{pass, stop, go_on, halt}
use Rattle.opmsg.specs.Read.{read}
use Rattle.opmsg.specs.declared.Edition.{Edition}
use Rattle.opmsg.specs.declared.View.{View}
use Rattle.message.specs.Forward.{forwarded, forward}

module _ (e : Edition) (s : List ℕ) (room : ℕ) where
  pub forward_refused : {number place : ℕ} → read e s ≡ refused number place → forward e s room ≡ refused number place
  unfolding forward
  forward_refused h = halt _ h

  module _ (v : View) (h : read e s ≡ ok v) where
    pub forward_short : room < v.length → forward e s room ≡ refused 25 0
    unfolding forward
    forward_short l = go_on _ h ∙ stop 25 0 _ (lt-ltb _ _ l)

    pub forward_fits : v.length ≤ room → forward e s room ≡ ok (record { view = v; bytes = forwarded s v })
    unfolding forward
    forward_fits l = go_on _ h ∙ pass 25 0 _ (le-ltb _ _ l)
