-- The fields of a stored line and the numbers in them. k is the line's number: a field that is not what it should be is refused with 38 at k.
-- Assumes nothing: these are definitions.
use Rattle.std.specs.Prelude.{ℕ, zero, suc, ◌+◌, ◌-◌, ◌*◌, ◌^◌, Bool, true, false, not, List, [], ◌∷◌, get_or, drop, ℤ, pos, negsuc, neg_ℤ, eqb, leb, ltb}
use Rattle.wire.specs.Outcome.{Outcome, ok, refuse, ◌>>=◌}
use Rattle.opmsg.specs.Names.{same_text}
use Rattle.listing_lines.specs.Decimal.{decimal, signed_decimal}
use Rattle.listing_lines.specs.Fields.{tab, newline}

-- how many bytes stand before the first newline of xs; all of them where there is none
unfoldable pub until_newline : List ℕ → ℕ
until_newline [] = zero
until_newline (x ∷ xs) = elim (eqb x newline) [ true ↦ zero | false ↦ suc (until_newline xs) ]

-- fields of which the first has x in front
unfoldable pub ahead : ℕ → List (List ℕ) → List (List ℕ)
ahead x [] = (x ∷ []) ∷ []
ahead x (f ∷ fs) = (x ∷ f) ∷ fs

-- the fields of a line without its newline: they are parted by tabs
unfoldable pub fields_of : List ℕ → List (List ℕ)
fields_of [] = [] ∷ []
fields_of (x ∷ xs) = elim (eqb x tab) [ true ↦ [] ∷ fields_of xs | false ↦ ahead x (fields_of xs) ]

-- field i, from 0
abbrev pub field : ℕ → List (List ℕ) → List ℕ
field i fs = get_or fs i []

-- the number that digits spell behind those of n
unfoldable pub spelled : ℕ → List ℕ → ℕ
spelled n [] = n
spelled n (x ∷ xs) = spelled (10 * n + (x - 48)) xs

-- the one that digits spell behind a minus sign, or alone
unfoldable pub spelled_signed : List ℕ → ℤ
spelled_signed f = elim (eqb (get_or f 0 0) 45) [ true ↦ neg_ℤ (pos (spelled 0 (drop 1 f))) | false ↦ pos (spelled 0 f) ]

-- it has 32 bits; `negsuc n` is −(n + 1)
unfoldable pub is_signed32 : ℤ → Bool
is_signed32 (pos n) = ltb n (2 ^ 31)
is_signed32 (negsuc n) = ltb n (2 ^ 31)

-- an unsigned 64-bit number, written as a listing writes it: without leading zeros
unfoldable pub number : (k : ℕ) → List ℕ → Outcome ℕ
number k f = do
  let n = spelled 0 f
  _ ← refuse 38 k (not (same_text f (decimal n)))
  _ ← refuse 38 k (leb (2 ^ 64) n)
  ok n

-- such a number from `least` to `most`
unfoldable pub between : (k least most : ℕ) → List ℕ → Outcome ℕ
between k least most f = do
  n ← number k f
  _ ← refuse 38 k (ltb n least)
  _ ← refuse 38 k (ltb most n)
  ok n

-- the number n itself
abbrev pub exactly : (k n : ℕ) → List ℕ → Outcome ℕ
exactly k n f = between k n n f

-- a signed 32-bit number, written so too: without leading zeros or −0
unfoldable pub signed_number : (k : ℕ) → List ℕ → Outcome (Unit {0})
signed_number k f = do
  let z = spelled_signed f
  _ ← refuse 38 k (not (same_text f (signed_decimal z)))
  refuse 38 k (not (is_signed32 z))
