-- Laws of the numbers in fields: what is written in decimal spells itself, and a field is a number where it is written so.
-- Assumes nothing.
use Prim.Native.Nat.{ℕ, zero, suc, ◌+◌, ◌-◌, ◌*◌, ◌/◌, ◌%◌, ◌^◌, ◌≤◌, ◌<◌}
use mathlib.Core.Bool.{Bool, true, false}
use mathlib.Core.Path.{◌≡◌, refl, sym, ap, ◌∙◌}
use mathlib.Core.List.{List, [], ◌∷◌, ◌++◌}
use native.Mathlib.Omega.{arith}
use lib.ListN.{get_or}
use lib.IntN.{ℤ, pos, negsuc}
use lib.Dec.{eqb, ltb}
use borrow.Author.Tests.{ltb-false, leb-false, le-ltb, lt-leb, not-false, ne_eqb}
use Rattle.wire.specs.Outcome.{ok, refuse, ◌>>=◌}
use Rattle.wire.proofs.Outcome.{ok_same, went, passed, clear, pass, go_on}
use Rattle.listing_lines.specs.Decimal.{digit, digits, decimal, signed_decimal}
use Rattle.listing_fields.specs.Numbers.{spelled, spelled_signed, is_signed32, number, between, exactly, signed_number}
use Rattle.listing_fields.proofs.Fields.{text_same, same_text_lem, Plain}

-- ---- what is written in decimal

pub spelled_append : (a : ℕ) (xs ys : List ℕ) → spelled a (xs ++ ys) ≡ spelled (spelled a xs) ys
unfolding spelled
spelled_append a [] ys = refl
spelled_append a (x ∷ xs) ys = spelled_append (10 * a + (x - 48)) xs ys

digits_spelled : (most n : ℕ) → n < most → spelled 0 (digits most n) ≡ n
unfolding digits spelled
digits_spelled zero n l = absurd (omega arith)
digits_spelled (suc most) n l = go (ltb n 10) refl (digits_spelled most (n / 10))
  where
    go : (b : Bool) → ltb n 10 ≡ b → (n / 10 < most → spelled 0 (digits most (n / 10)) ≡ n / 10)
        → spelled 0 (elim b [ true ↦ digit n ∷ [] | false ↦ digits most (n / 10) ++ (digit (n % 10) ∷ []) ]) ≡ n
    go true e ih = omega arith
    go false e ih =
        let h = ltb-false n 10 e in
        spelled_append 0 (digits most (n / 10)) (digit (n % 10) ∷ []) ∙ rw (ih (omega arith)) (omega arith)

-- a number is spelled by its digits
pub spelled_decimal : (n : ℕ) → spelled 0 (decimal n) ≡ n
unfolding decimal
spelled_decimal n = digits_spelled (suc n) n (omega arith)

pub decimal_same : (m n : ℕ) → decimal m ≡ decimal n → m ≡ n
decimal_same m n e = sym (spelled_decimal m) ∙ ap (spelled 0) e ∙ spelled_decimal n

-- all bytes are at least the digit 0
abbrev Numeric : List ℕ → Type 0
Numeric [] = Unit {0}
Numeric (x ∷ xs) = (48 ≤ x) × Numeric xs

numeric_append : (xs ys : List ℕ) → Numeric xs → Numeric ys → Numeric (xs ++ ys)
numeric_append [] ys h k = k
numeric_append (x ∷ xs) ys h k = (h.0, numeric_append xs ys h.1 k)

numeric_plain : (xs : List ℕ) → Numeric xs → Plain xs
numeric_plain [] h = tt
numeric_plain (x ∷ xs) h = (omega (arith, h.0), numeric_plain xs h.1)

numeric_first : (xs : List ℕ) → Numeric xs → eqb (get_or xs 0 0) 45 ≡ false
numeric_first [] h = refl
numeric_first (x ∷ xs) h = ne_eqb x 45 (λ e. omega (arith, h.0))

digits_numeric : (most n : ℕ) → Numeric (digits most n)
unfolding digits
digits_numeric zero n = tt
digits_numeric (suc most) n = go (ltb n 10) (digits_numeric most (n / 10))
  where
    go : (b : Bool) → Numeric (digits most (n / 10)) → Numeric (elim b [ true ↦ digit n ∷ [] | false ↦ digits most (n / 10) ++ (digit (n % 10) ∷ []) ])
    go true ih = (omega arith, tt)
    go false ih = numeric_append (digits most (n / 10)) (digit (n % 10) ∷ []) ih (omega arith, tt)

decimal_numeric : (n : ℕ) → Numeric (decimal n)
unfolding decimal
decimal_numeric n = digits_numeric (suc n) n

pub decimal_plain : (n : ℕ) → Plain (decimal n)
decimal_plain n = numeric_plain (decimal n) (decimal_numeric n)

pub signed_plain : (z : ℤ) → Plain (signed_decimal z)
unfolding signed_decimal
signed_plain (pos n) = decimal_plain n
signed_plain (negsuc n) = (omega arith, decimal_plain (suc n))

-- so is a signed one
pub spelled_signed_lem : (z : ℤ) → spelled_signed (signed_decimal z) ≡ z
unfolding signed_decimal spelled_signed
spelled_signed_lem (pos n) = rw (spelled_signed, numeric_first (decimal n) (decimal_numeric n), spelled_decimal n)
spelled_signed_lem (negsuc n) = rw (spelled_decimal (suc n))

-- ---- fields that are numbers

pub number_decimal : (k n : ℕ) → n < 2 ^ 64 → number k (decimal n) ≡ ok n
unfolding number ◌>>=◌ refuse
number_decimal k n l = rw (spelled_decimal n, text_same (decimal n), lt-leb (2 ^ 64) n l)

pub number_ok : (k : ℕ) (f : List ℕ) (n : ℕ) → number k f ≡ ok n → (f ≡ decimal n) × (n < 2 ^ 64)
unfolding number
number_ok k f n h =
    let a = passed _ _ _ _ h in
    let b = passed _ _ _ _ a.1 in
    let e : spelled 0 f ≡ n = ok_same b.1 in
    (rw e at (same_text_lem f (decimal (spelled 0 f)) (not-false _ a.0)), rw e at (leb-false (2 ^ 64) (spelled 0 f) b.0))

pub between_decimal : (k least most n : ℕ) → n < 2 ^ 64 → least ≤ n → n ≤ most → between k least most (decimal n) ≡ ok n
unfolding between
between_decimal k least most n l a b = go_on _ (number_decimal k n l) ∙ pass 38 k _ (le-ltb n least a) ∙ pass 38 k _ (le-ltb most n b)

-- what a number in bounds is
pub record Between (least most : ℕ) (f : List ℕ) (n : ℕ) : Type 0 where
  pub is : f ≡ decimal n
  pub fits : n < 2 ^ 64
  pub low : least ≤ n
  pub high : n ≤ most

pub between_ok : (k least most : ℕ) (f : List ℕ) (n : ℕ) → between k least most f ≡ ok n → Between least most f n
unfolding between
between_ok k least most f n h =
    let a = went _ _ h in
    let b = passed _ _ _ _ a.2 in
    let c = passed _ _ _ _ b.1 in
    let e : a.0 ≡ n = ok_same c.1 in
    let w = number_ok k f n (a.1 ∙ ap ok e) in
    record {
      is = w.0;
      fits = w.1;
      low = omega (arith, ltb-false a.0 least b.0);
      high = omega (arith, ltb-false most a.0 c.0);
    }

pub exactly_decimal : (k n : ℕ) → n < 2 ^ 64 → exactly k n (decimal n) ≡ ok n
exactly_decimal k n l = between_decimal k n n n l (omega arith) (omega arith)

pub exactly_ok : (k n : ℕ) (f : List ℕ) (m : ℕ) → exactly k n f ≡ ok m → (f ≡ decimal n) × (n < 2 ^ 64)
exactly_ok k n f m h =
    let b = between_ok k n n f m h in
    let e : m ≡ n = omega (arith, b.low, b.high) in
    (rw e at b.is, rw e at b.fits)

pub signed_decimal_lem : (k : ℕ) (z : ℤ) → is_signed32 z ≡ true → signed_number k (signed_decimal z) ≡ ok tt
unfolding signed_number ◌>>=◌ refuse
signed_decimal_lem k z h = rw (spelled_signed_lem z, text_same (signed_decimal z), h)

pub signed_ok : (k : ℕ) (f : List ℕ) (u : Unit {0}) → signed_number k f ≡ ok u → (f ≡ signed_decimal (spelled_signed f)) × (is_signed32 (spelled_signed f) ≡ true)
unfolding signed_number
signed_ok k f u h =
    let a = passed _ _ _ _ h in
    (same_text_lem f (signed_decimal (spelled_signed f)) (not-false _ a.0), not-false _ (clear _ _ _ a.1))
