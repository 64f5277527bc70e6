-- Laws of numbers that are read digit by digit, and of signed numbers by their digits.
-- Assumes nothing.
use Prim.Native.Nat.{ℕ, zero, suc, ◌+◌, ◌-◌, ◌*◌, ◌^◌, ◌≤◌, ◌<◌}
use mathlib.Core.Bool.{Bool, true, false, not, ◌&&◌}
use mathlib.Core.Path.{◌≡◌, refl, sym, ap, ◌∙◌}
use mathlib.Core.List.{List, [], ◌∷◌}
use native.Mathlib.Numerals.{add-one}
use native.Mathlib.Omega.{arith}
use lib.ListN.{length, get_or, drop, drop_of_length-le}
use lib.Seq.{drop-cons}
use lib.Dec.{leb, ltb, eqb}
use borrow.Author.Tests.{lt-leb, le-leb, lt-ltb, le-ltb, ltb-true, ltb-false, leb-true, leb-false, eqb-true}
use Rattle.std.specs.Prelude.{Option, Some, None}
use Rattle.std.specs.Option.{is_some}
use Rattle.wire.specs.Outcome.{Outcome, ok, refused, refuse, ◌>>=◌}
use Rattle.wire.proofs.Outcome.{pass, stop, go_on, halt}
use Rattle.opmsg.specs.Names.{same_text}
use Rattle.listing_lines.specs.Decimal.{digits, decimal, signed_decimal}
use Rattle.listing_fields.specs.Numbers.{spelled, spelled_signed, is_signed32, number, between, exactly, signed_number}
use Rattle.listing_fields.specs.Inner.{numbered}

pub spelled_next : (n : ℕ) (f : List ℕ) (i : ℕ) → i < length f → spelled n (drop i f) ≡ spelled (10 * n + (get_or f i 0 - 48)) (drop (i + 1) f)
unfolding spelled
spelled_next n f i h = rw (add-one, drop-cons f i 0 h)

pub spelled_end : (n : ℕ) (f : List ℕ) (i : ℕ) → length f ≤ i → spelled n (drop i f) ≡ n
unfolding spelled
spelled_end n f i h = rw (drop_of_length-le f h)

-- more digits never spell less
pub spelled_more : (n : ℕ) (f : List ℕ) → n ≤ spelled n f
unfolding spelled
spelled_more n [] = omega arith
spelled_more n (x ∷ f) = omega (arith, spelled_more (10 * n + (x - 48)) f)

-- ---- a number by what it spells

module _ (k : ℕ) (f : List ℕ) where
  pub number_large : 2 ^ 64 ≤ spelled 0 f → number k f ≡ refused 38 k
  unfolding number ◌>>=◌ refuse
  number_large h = go (same_text f (decimal (spelled 0 f))) refl
    where
      go : (b : Bool) → same_text f (decimal (spelled 0 f)) ≡ b → number k f ≡ refused 38 k
      go true e = rw (number, e, le-leb (2 ^ 64) (spelled 0 f) h)
      go false e = rw (number, e)

  pub number_other : (n : ℕ) → n ≡ spelled 0 f → same_text f (decimal n) ≡ false → number k f ≡ refused 38 k
  unfolding number
  number_other n s e = let d : same_text f (decimal (spelled 0 f)) ≡ false = rw s at e in stop 38 k _ (ap not d)

  pub number_is : (n : ℕ) → n ≡ spelled 0 f → n < 2 ^ 64 → same_text f (decimal n) ≡ true → number k f ≡ ok n
  unfolding number
  number_is n s l e =
      let d : same_text f (decimal (spelled 0 f)) ≡ true = rw s at e in
      pass 38 k _ (ap not d) ∙ pass 38 k _ (lt-leb (2 ^ 64) (spelled 0 f) (omega arith)) ∙ rw s

-- ---- a number in bounds

module _ (k least most : ℕ) (f : List ℕ) where
  pub between_none : number k f ≡ refused 38 k → between k least most f ≡ refused 38 k
  unfolding between
  between_none e = halt _ e

  pub between_under : (n : ℕ) → number k f ≡ ok n → n < least → between k least most f ≡ refused 38 k
  unfolding between
  between_under n e h = go_on _ e ∙ stop 38 k _ (lt-ltb n least h)

  pub between_over : (n : ℕ) → number k f ≡ ok n → least ≤ n → most < n → between k least most f ≡ refused 38 k
  unfolding between
  between_over n e l h = go_on _ e ∙ pass 38 k _ (le-ltb n least l) ∙ stop 38 k _ (lt-ltb most n h)

  pub between_is : (n : ℕ) → number k f ≡ ok n → least ≤ n → n ≤ most → between k least most f ≡ ok n
  unfolding between
  between_is n e l h = go_on _ e ∙ pass 38 k _ (le-ltb n least l) ∙ pass 38 k _ (le-ltb most n h)

-- whether there is one
pub tells : {o : Outcome ℕ} (k : ℕ) (r : Option ℕ) (b : Bool) → o ≡ numbered k r → b ≡ is_some r → (o >>= λ _. ok tt) ≡ refuse 38 k (not b)
unfolding ◌>>=◌ refuse
tells k (Some n) b e d = rw (e, d)
tells k None b e d = rw (e, d)

-- no field tells a number of more bits
pub exactly_far : (k n : ℕ) (f : List ℕ) → 2 ^ 64 ≤ n → exactly k n f ≡ refused 38 k
exactly_far k n f h = go (same_text f (decimal (spelled 0 f))) (leb (2 ^ 64) (spelled 0 f)) refl refl
  where
    go : (s l : Bool) → same_text f (decimal (spelled 0 f)) ≡ s → leb (2 ^ 64) (spelled 0 f) ≡ l → exactly k n f ≡ refused 38 k
    go false l e d = between_none k n n f (number_other k f (spelled 0 f) refl e)
    go true true e d = between_none k n n f (number_large k f (leb-true (2 ^ 64) (spelled 0 f) d))
    go true false e d =
        let l = leb-false (2 ^ 64) (spelled 0 f) d in
        between_under k n n f (spelled 0 f) (number_is k f (spelled 0 f) refl l e) (omega arith)

-- ---- signed numbers

-- what a check tells, without its value
abbrev pub checked : {A : Type 0} → Outcome A → Outcome (Unit {0})
checked o = o >>= λ _. ok tt

-- from `least` to `most`
within : ℕ → ℕ → ℕ → Bool
within least most n = not (ltb n least) && not (ltb most n)

and_false : (b : Bool) → (b && false) ≡ false
and_false true = refl
and_false false = refl

beyond : (least most n : ℕ) → most < n → within least most n ≡ false
unfolding within
beyond least most n h = rw (lt-ltb most n h) (and_false (not (ltb n least)))

nothing : {o : Outcome ℕ} (k : ℕ) → o ≡ refused 38 k → (o >>= λ _. ok tt) ≡ refuse 38 k true
unfolding ◌>>=◌ refuse
nothing k e = rw e

in_bounds : (k n : ℕ) (under over : Bool) → ((refuse 38 k under >>= λ _. refuse 38 k over >>= λ _. ok n) >>= λ _. ok tt) ≡ refuse 38 k (not (not under && not over))
unfolding ◌>>=◌ refuse
in_bounds k n true over = refl
in_bounds k n false true = refl
in_bounds k n false false = refl

in_bounds_tells : (k least most : ℕ) (f : List ℕ) (n : ℕ) → number k f ≡ ok n → (between k least most f >>= λ _. ok tt) ≡ refuse 38 k (not (within least most n))
unfolding between within
in_bounds_tells k least most f n e = ap (λ (o : Outcome ℕ). o >>= λ _. ok tt) (go_on _ e) ∙ in_bounds k n (ltb n least) (ltb most n)

between_tells : (k least most : ℕ) (f : List ℕ) → most < 2 ^ 64
    → (between k least most f >>= λ _. ok tt) ≡ refuse 38 k (not (same_text f (decimal (spelled 0 f)) && within least most (spelled 0 f)))
between_tells k least most f m = go (same_text f (decimal (spelled 0 f))) (leb (2 ^ 64) (spelled 0 f)) refl refl
  where
    go : (s l : Bool) → same_text f (decimal (spelled 0 f)) ≡ s → leb (2 ^ 64) (spelled 0 f) ≡ l
        → (between k least most f >>= λ _. ok tt) ≡ refuse 38 k (not (s && within least most (spelled 0 f)))
    go false l e d = nothing k (between_none k least most f (number_other k f (spelled 0 f) refl e))
    go true true e d =
        let h = leb-true (2 ^ 64) (spelled 0 f) d in
        nothing k (between_none k least most f (number_large k f h)) ∙ rw (beyond least most (spelled 0 f) (omega arith))
    go true false e d = in_bounds_tells k least most f (spelled 0 f) (number_is k f (spelled 0 f) refl (leb-false (2 ^ 64) (spelled 0 f) d) e)

signed_tells : (k : ℕ) (s t : Bool) → ((refuse 38 k (not s) >>= λ _. refuse 38 k (not t)) >>= λ _. ok tt) ≡ refuse 38 k (not (s && t))
unfolding ◌>>=◌ refuse
signed_tells k true true = refl
signed_tells k true false = refl
signed_tells k false t = refl

-- numbers of 31 bits
under_31 : (n : ℕ) → ltb n (2 ^ 31) ≡ within 0 0x7FFF_FFFF n
unfolding within
under_31 n = go (ltb n (2 ^ 31)) refl
  where
    go : (b : Bool) → ltb n (2 ^ 31) ≡ b → b ≡ (not (ltb n 0) && not (ltb 0x7FFF_FFFF n))
    go true e = rw (le-ltb n 0 (omega arith), le-ltb 0x7FFF_FFFF n (omega (arith, ltb-true n (2 ^ 31) e)))
    go false e = rw (le-ltb n 0 (omega arith), lt-ltb 0x7FFF_FFFF n (omega (arith, ltb-false n (2 ^ 31) e)))

over_31 : (n : ℕ) → ltb n (2 ^ 31) ≡ within 1 0x8000_0000 (suc n)
unfolding within
over_31 n = go (ltb n (2 ^ 31)) refl
  where
    go : (b : Bool) → ltb n (2 ^ 31) ≡ b → b ≡ (not (ltb (suc n) 1) && not (ltb 0x8000_0000 (suc n)))
    go true e = rw (le-ltb (suc n) 1 (omega arith), le-ltb 0x8000_0000 (suc n) (omega (arith, ltb-true n (2 ^ 31) e)))
    go false e = rw (le-ltb (suc n) 1 (omega arith), lt-ltb 0x8000_0000 (suc n) (omega (arith, ltb-false n (2 ^ 31) e)))

-- without a minus sign
plain_tells : (k : ℕ) (f : List ℕ) → eqb (get_or f 0 0) 45 ≡ false
    → checked (signed_number k f) ≡ refuse 38 k (not (same_text f (decimal (spelled 0 f)) && within 0 0x7FFF_FFFF (spelled 0 f)))
unfolding signed_number spelled_signed signed_decimal is_signed32
plain_tells k f e = rw (spelled_signed, e, ← under_31 (spelled 0 f)) (signed_tells k (same_text f (decimal (spelled 0 f))) (ltb (spelled 0 f) (2 ^ 31)))

pub signed_plain : (k : ℕ) (f : List ℕ) → eqb (get_or f 0 0) 45 ≡ false → checked (signed_number k f) ≡ checked (between k 0 0x7FFF_FFFF f)
signed_plain k f e = plain_tells k f e ∙ sym (between_tells k 0 0x7FFF_FFFF f (omega arith))

-- and with one
minus_tells : (k : ℕ) (g : List ℕ) (m : ℕ) → spelled 0 g ≡ m
    → checked (signed_number k (45 ∷ g)) ≡ refuse 38 k (not (same_text g (decimal m) && within 1 0x8000_0000 m))
unfolding signed_number spelled_signed signed_decimal is_signed32 same_text within
minus_tells k g zero e =
    let zero_digit : decimal 0 ≡ 48 ∷ [] = unfold decimal digits in refl in
    rw (e, and_false (same_text g (decimal 0)), zero_digit) (signed_tells k false true)
minus_tells k g (suc j) e = rw e (signed_tells k (same_text g (decimal (suc j))) (ltb j (2 ^ 31)) ∙ rw (over_31 j) refl)

pub signed_minus : (k : ℕ) (f : List ℕ) → eqb (get_or f 0 0) 45 ≡ true
    → checked (signed_number k f) ≡ checked (between k 1 0x8000_0000 (drop 1 f))
signed_minus k [] e = let z : ◌≡◌ {A = ℕ} 0 1 = cc in absurd (omega arith)
signed_minus k (x ∷ g) e =
    rw (eqb-true x 45 e) (minus_tells k g (spelled 0 g) refl ∙ sym (between_tells k 1 0x8000_0000 g (omega arith)))
