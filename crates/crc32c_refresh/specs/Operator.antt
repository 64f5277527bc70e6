-- The advance as an operator of thirty-two 32-bit numbers, and by repeated squaring.
-- Assumes nothing: these are definitions.
use Rattle.std.specs.Prelude.{ℕ, zero, suc, ◌+◌, ◌*◌, ◌/◌, ◌%◌, ◌^◌, ◌<◌, Bool, true, false, ◌≡◌, List, [], ◌∷◌, map, eqb}
use Rattle.std.specs.Int.Bits.{bit_xor}
use Rattle.crc32c_refresh.specs.Refresh.{advance}

-- what f makes of each of so many bits, from the bit k on
unfoldable pub images : (ℕ → ℕ) → (bits from : ℕ) → List ℕ
images f zero k = []
images f (suc bits) k = f (2 ^ k) ∷ images f bits (suc k)

-- the operator of n bytes: what the advance over them makes of each of the register's thirty-two bits, the lowest first
unfoldable pub operator : (n : ℕ) → List ℕ
operator n = images (advance n) 32 0

-- an operator applied to a number: the xor of what it makes of the bits that the number has
unfoldable pub apply : List ℕ → ℕ → ℕ
apply [] v = 0
apply (x ∷ m) v = bit_xor (v % 2 * x) (apply m (v / 2))

-- the operator k, and m behind it; the square is that of twice as many bytes
unfoldable pub composed : List ℕ → List ℕ → List ℕ
composed m k = map (apply m) k

abbrev pub squared : List ℕ → List ℕ
squared m = composed m m

-- a change, with m behind it or without
abbrev pub turned : List ℕ → Bool → ℕ → ℕ
turned m b change = elim b [ true ↦ apply m change | false ↦ change ]

-- a change, advanced by repeated squaring, as many times as n has bits: m is the operator of the bytes that n's lowest bit counts
unfoldable pub squaring : (turns : ℕ) → List ℕ → (n change : ℕ) → ℕ
squaring zero m n change = change
squaring (suc turns) m n change = squaring turns (squared m) (n / 2) (turned m (eqb (n % 2) 1) change)

pub record Operators : Type 0 where
  -- an operator of n bytes is the advance over them,
  pub applies : (n change : ℕ) → change < 2 ^ 32 → apply (operator n) change ≡ advance n change
  -- two of them one behind the other are the operator of as many bytes as both,
  pub composes : (m n : ℕ) → composed (operator m) (operator n) ≡ operator (m + n)
  -- and the square of the operator of some bytes, taken again and again, gives the advance over any number of times as many
  pub squares : (turns bytes n change : ℕ) → n < 2 ^ turns → change < 2 ^ 32 → squaring turns (operator bytes) n change ≡ advance (bytes * n) change
