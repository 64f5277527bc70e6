-- What a result tells: refusals are bounded, so that 0 is none and the two halves of any other are its number and its place.
-- Assumes nothing.
use Prim.Native.Nat.{ℕ, ◌^◌, ◌≤◌, ◌<◌}
use mathlib.Core.Path.{◌≡◌, refl, sym}
use native.Mathlib.Omega.{arith}
use lib.Dec.{ltb}
use Rattle.std.specs.Prelude.{Result, Ok, Err}
use Rattle.wire.specs.Outcome.{Outcome, ok, refused, ◌>>=◌}
use Rattle.wire.proofs.Outcome.{not_ok}
use Rattle.wire.proofs.Meets.{good, missed, check}
use Rattle.refusal.specs.Told.{number, told}
use Rattle.refusal.specs.declared.Refusal.{Refusal}
use Rattle.opmsg.specs.Inner.{judged}
use Rattle.opmsg.specs.declared.View.{View}
use Rattle.message.specs.Message.{Written, viewed}
use Rattle.message.specs.Refusals.{Bounded}
use Rattle.message.specs.Inner.{decided}
use Rattle.message.proofs.Refusals.{refusals_bounded}
use Rattle.relay_c_results.specs.Numbers.{view_size}
use Rattle.relay_c_results.specs.Interface.{place_told, with_room, result_of}
use Rattle.relay_c_results.specs.Inner.{Placed}
use Rattle.relay_c.specs.Results.{Told, ResultsTell}

-- ---- the place of a refusal, where a result is made of it

pub told_placed : {A : Type 0} {last : ℕ} (o : Outcome A) (r : Result A Refusal) → Bounded last o → told r ≡ o → Placed place_told r
told_placed o (Ok a) b e = tt
told_placed o (Err r) b e = (b (number r.reason) r.place (sym e)).3

pub viewed_placed : {last : ℕ} (o : Outcome Written) (r : Result View Refusal) → Bounded last o → told r ≡ viewed o → Placed place_told r
unfolding viewed ◌>>=◌
viewed_placed o (Ok v) b e = tt
viewed_placed (ok w) (Err r) b e = not_ok e
viewed_placed (refused m q) (Err r) b e = let h : r.place ≡ q = cc in rw h (b m q refl).3

pub decided_placed : {last : ℕ} (o : Outcome Written) (v : Result (Unit {0}) Refusal) → Bounded last o → judged v ≡ decided o → Placed place_told v
unfolding decided ◌>>=◌
decided_placed o (Ok u) b d = tt
decided_placed (ok w) (Err r) b d = not_ok d
decided_placed (refused m q) (Err r) b d = let h : r.place ≡ q = cc in rw h (b m q refl).3

-- ---- what the result tells

-- no room for the view is refused with 25 at 0
room_bounded : {A : Type 0} {last : ℕ} → 25 ≤ last → (shown : ℕ) (o : Outcome A) → Bounded last o → Bounded last (with_room shown o)
unfolding with_room ◌>>=◌
room_bounded {A} {last} l shown (ok a) b number place h =
    missed {P = λ (_ : A). Unit {0}} {Q = λ n p. (1 ≤ n) × (n ≤ last) × ¬ (n ≡ 26) × (p < 2 ^ 32)} (check 25 0 (ltb shown view_size) (λ _. ok a) (omega arith) λ _. good tt) h
room_bounded l shown (refused n p) b number place h = b number place h

tells : {A : Type 0} {last : ℕ} (o : Outcome A) → Bounded last o → Told o
unfolding result_of
tells (ok a) b = record { zero_accepts = (λ _. (a, refl), λ _. refl); halves = λ number place h. not_ok (sym h) }
tells (refused n p) b =
    let q = b n p refl in
    record {
      zero_accepts = (λ z. absurd (omega (arith, q.0)), λ k. not_ok k.1);
      halves = λ number place h.
          let e : n ≡ number = cc in
          let f : p ≡ place = cc in
          omega (arith, q.3);
    }

pub results_tell : ResultsTell
results_tell =
    let r = refusals_bounded in
    record {
      reads = λ e s shown. tells _ (room_bounded (omega arith) shown _ (r.reads e s));
      forwards = λ e s room shown. tells _ (room_bounded (omega arith) shown _ (r.forwards e s room));
      writes = λ e i j flags body room shown. tells _ (room_bounded (omega arith) shown _ (r.writes e i j flags body room));
      appends = λ e s identifier documents room shown. tells _ (room_bounded (omega arith) shown _ (r.appends e s identifier documents room));
      moves = λ e s behind room shown. tells _ (room_bounded (omega arith) shown _ (r.moves e s behind room));
    }
