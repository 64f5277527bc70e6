-- The length and the last byte of a document, as `frame` of `specs/Document.antt` reads them.
-- Assumes nothing.
use Prim.Native.Nat.{ℕ, zero, suc, ◌-◌, ◌^◌, ◌≤◌, ◌<◌}
use mathlib.Core.Path.{◌≡◌, sym, ap}
use mathlib.Core.Logic.{◌↔◌}
use mathlib.Core.List.{List}
use native.Mathlib.Omega.{arith}
use lib.ListN.{length, get_or}
use Rattle.wire.specs.Outcome.{ok}
use Rattle.wire.specs.Bytes.{word}
use Rattle.wire.specs.Walk.{Step}
use Rattle.wire.proofs.Outcome.{not_ok, ok_same, bound, check_ltb, check_eqb, check_under}
use Rattle.bson.specs.Document.{frame, document_at}

-- n is the length that xs begins with, xs has so many bytes, and the last of them is zero
pub record Framed (xs : List ℕ) (n : ℕ) : Type 0 where
  pub is : n ≡ word xs
  pub low : 5 ≤ n
  pub small : n < 2 ^ 31
  pub fits : n ≤ length xs
  pub ended : get_or xs (n - 1) 0 ≡ 0

pub frame_is : (at : ℕ) (xs : List ℕ) (n : ℕ) → (frame at xs ≡ ok n) ↔ Framed xs n
unfolding frame
frame_is at xs n = (to, back)
  where
    to : frame at xs ≡ ok n → Framed xs n
    to e =
        let a = (check_ltb _ _ _ _ (length xs) 4).0 e in
        let s = (check_under _ _ _ _ 5 (word xs)).0 a.1 in
        let l = (check_ltb _ _ _ _ (length xs) (word xs)).0 s.2 in
        let z = (check_eqb _ _ _ _ (get_or xs (word xs - 1) 0) 0).0 l.1 in
        let same : word xs ≡ n = ok_same z.1 in
        record { is = sym same; low = omega arith; small = omega arith; fits = omega arith; ended = rw same at z.0 }

    back : Framed xs n → frame at xs ≡ ok n
    back f =
        (check_ltb _ _ _ _ (length xs) 4).1 (
          omega (arith, f.low, f.fits),
          (check_under _ _ _ _ 5 (word xs)).1 (
            omega (arith, f.is, f.low),
            omega (arith, f.is, f.small),
            (check_ltb _ _ _ _ (length xs) (word xs)).1 (
              omega (arith, f.is, f.fits),
              (check_eqb _ _ _ _ (get_or xs (word xs - 1) 0) 0).1 (rw f.is at f.ended, ap ok (sym f.is)),
            ),
          ),
        )

-- a document that was read is as long as it says
pub document_framed : (levels at : ℕ) (xs : List ℕ) (count : ℕ) (r : Step ℕ) → document_at levels at xs count ≡ ok r → Framed xs r.size
unfolding document_at
document_framed zero at xs count r e = not_ok e
document_framed (suc levels) at xs count r e =
    bound _ _ e λ n en fn.
    bound _ _ fn λ total et ft.
    let size : n ≡ r.size = ap (λ (x : Step ℕ). x.size) (ok_same ft) in
    rw size at ((frame_is at xs n).0 en)
