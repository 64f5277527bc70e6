-- Numbers and texts in a run of bytes.
-- Assumes nothing: these are definitions.
use Rattle.std.specs.Prelude.{ℕ, zero, suc, ◌+◌, ◌-◌, ◌*◌, ◌/◌, ◌%◌, ◌^◌, ◌<◌, Bool, true, false, List, [], ◌∷◌, ◌++◌, length, get_or, take, drop, ℤ, pos, negsuc, eqb, leb, ltb}

-- a list of bytes
abbrev pub Bytes : List ℕ → Type 0
Bytes s = (i : ℕ) → get_or s i 0 < 256

-- the unsigned little-endian 32-bit number that xs begins with
unfoldable pub word : List ℕ → ℕ
word xs = get_or xs 0 0 + 0x100 * get_or xs 1 0 + 0x1_0000 * get_or xs 2 0 + 0x100_0000 * get_or xs 3 0

-- the one at a place
unfoldable pub word_at : ℕ → List ℕ → ℕ
word_at at xs = word (drop at xs)

-- as a signed number it is below n, which is at most 2 ^ 31
unfoldable pub under : ℕ → ℕ → Bool
under n w = elim (ltb w n) [ true ↦ true | false ↦ leb (2 ^ 31) w ]

-- the signed number with the same 32 bits
unfoldable pub signed : ℕ → ℤ
signed w = elim (ltb w (2 ^ 31)) [ true ↦ pos w | false ↦ negsuc (2 ^ 32 - 1 - w) ]

-- the 32 bits of a signed number
unfoldable pub bits32 : ℤ → ℕ
bits32 (pos n) = n
bits32 (negsuc n) = 2 ^ 32 - 1 - n

-- the four bytes of a 32-bit number
unfoldable pub le32 : ℕ → List ℕ
le32 w = w % 256 ∷ w / 0x100 % 256 ∷ w / 0x1_0000 % 256 ∷ w / 0x100_0000 % 256 ∷ []

-- old with xs in it from a place on, where they fit
unfoldable pub put : ℕ → List ℕ → List ℕ → List ℕ
put at xs old = elim (leb (at + length xs) (length old)) [ true ↦ take at old ++ xs ++ drop (at + length xs) old | false ↦ old ]

-- how many bytes stand before the first zero byte of xs; all of them where there is none
unfoldable pub until_zero : List ℕ → ℕ
until_zero [] = zero
until_zero (x ∷ xs) = elim (eqb x 0) [ true ↦ zero | false ↦ suc (until_zero xs) ]

-- x is one of a list of numbers
unfoldable pub one_of : List ℕ → ℕ → Bool
one_of [] x = false
one_of (y ∷ ys) x = elim (eqb x y) [ true ↦ true | false ↦ one_of ys x ]
