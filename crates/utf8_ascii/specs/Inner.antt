-- What the answers of the functions stand for.
-- Assumes nothing: these are definitions.
use Rattle.std.specs.Prelude.{ℕ, ◌+◌, ◌≤◌, ◌<◌, List, ◌≡◌, length, get_or, drop}
use Rattle.std.specs.List.{AllWithin}
use Rattle.wire.specs.Bytes.{until_zero}

-- the first n bytes of xs are characters of one byte; what stands past the end counts as such
abbrev pub Ascii : (n : ℕ) → List ℕ → Type 0
Ascii n xs = (i : ℕ) → i < n → get_or xs i 0 < 0x80

-- each of four bytes is one, other than zero
abbrev pub AllPlain : List ℕ → Type 0
AllPlain four = AllWithin (λ x. (0 < x) × (x < 0x80)) four 0 4

-- and none of them is zero: the first zero byte comes behind them
abbrev pub PlainRun : (n : ℕ) → List ℕ → Type 0
PlainRun n xs = Ascii n xs × ((n ≤ length xs) × (until_zero xs ≡ n + until_zero (drop n xs)))
