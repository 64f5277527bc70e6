-- The body as the code reads it: the document where it lies, and then its names.
-- Assumes nothing.
use Prim.Native.Nat.{ℕ, ◌-◌, ◌^◌, ◌<◌, ◌≤◌}
use mathlib.Core.Path.{◌≡◌, sym, ◌∙◌}
use mathlib.Core.List.{List, []}
use native.Mathlib.Omega.{arith}
use lib.ListN.{length, take, drop, length-take}
use Rattle.wire.specs.Outcome.{Outcome, ok, refused, ◌>>=◌}
use Rattle.wire.specs.Walk.{step}
use Rattle.wire.proofs.Outcome.{go_on, halt}
use Rattle.bson.specs.Document.{document_at, max_levels}
use Rattle.opmsg.specs.Inner.{Filled}
use Rattle.opmsg.specs.Names.{never, distinct, element_names}
use Rattle.opmsg_body_names.proofs.Elements.{names_turns}
use Rattle.bson.proofs.Frame.{Framed}
use Rattle.opmsg_documents.proofs.Turns.{past_framed}
use Rattle.opmsg_documents.proofs.Fill.{document_filled}
use Rattle.message_write_checks.specs.Inner.{body_examined}

module _ (s : List ℕ) where
  pub body_refused : {number place : ℕ} → refused number place ≡ document_at max_levels 21 s 0 → body_examined s ≡ refused number place
  unfolding body_examined
  body_refused h = halt _ (sym h)

  -- the elements, as code slices them
  module _ {size count : ℕ} (h : step size count ≡ document_at max_levels 21 s 0) where
    inner : size - 1 - 4 ≡ size - 5
    inner = omega arith

    framed : Framed s size
    framed = past_framed 21 s 0 h

    pub at_least : 5 ≤ size
    at_least = framed.low

    pub within : size ≤ length s
    within = framed.fits

    pub small : size < 2 ^ 31
    small = framed.small

    pub body_filled : Filled (take (size - 1 - 4) (drop 4 s))
    body_filled = rw inner (document_filled max_levels 21 s 0 (record { size = size; state = count }) (sym h))

    abbrev differ : Outcome (Unit {0})
    differ = distinct 23 never [] (element_names (length (take (size - 1 - 4) (drop 4 s))) 25 (take (size - 1 - 4) (drop 4 s)))

    named : body_examined s ≡ (differ >>= λ _. step size count)
    unfolding body_examined
    named =
        let short : length (take (size - 1 - 4) (drop 4 s)) ≤ size = rw length-take (omega arith) in
        go_on _ (sym h) ∙ rw (← inner, names_turns size (length (take (size - 1 - 4) (drop 4 s))) 25 _ body_filled short (omega arith))

    pub names_refused : {number place : ℕ} → refused number place ≡ differ → body_examined s ≡ refused number place
    names_refused k = named ∙ halt _ (sym k)

    pub names_passed : ok tt ≡ differ → body_examined s ≡ step size count
    names_passed k = named ∙ go_on _ (sym k)

pub ruleset cases = (body_refused, at_least, within, small, length-take, body_filled, names_refused, names_passed)
