-- What the answers of the functions stand for.
-- Assumes nothing: these are definitions.
use Rattle.std.specs.Prelude.{ℕ, ◌+◌, ◌≤◌, ◌<◌, List, ◌≡◌, ◌⊎◌, Result, Ok, Err, length, get_or, take, drop}
use Rattle.wire.specs.Outcome.{ok, refused}
use Rattle.wire.specs.Bytes.{until_zero}
use Rattle.utf8.specs.Text.{well_formed, text_at}
use Rattle.utf8_text.specs.declared.TextError.{TextError}

-- the first n bytes of xs are characters, and the longest well-formed beginning runs on behind them
abbrev pub Passes : (n : ℕ) → List ℕ → Type 0
Passes n xs = (n ≤ length xs) × (well_formed xs ≡ n + well_formed (drop n xs))

-- a byte that only stands behind another one of its character, and one that never does
abbrev pub Tail : ℕ → Type 0
Tail x = (0x80 ≤ x) × (x ≤ 0xBF)

abbrev pub Other : ℕ → Type 0
Other x = (x < 0x80) ⊎ (0xBF < x)

-- y may stand behind x where each character has one byte or two: a tail behind the first of two, and anything else behind a tail or a character of one
abbrev pub Follows : (x y : ℕ) → Type 0
Follows x y = ((0xC2 ≤ x) × (x ≤ 0xDF) × Tail y) ⊎ ((x ≤ 0xBF) × Other y)

-- so it is behind each of the first n bytes
abbrev pub Joined : (n : ℕ) → List ℕ → Type 0
Joined n xs = (i : ℕ) → i < n → Follows (get_or xs i 0) (get_or xs (i + 1) 0)

-- what is found of text that a zero byte ends
abbrev pub Ended : List ℕ → Result ℕ TextError → Type 0
Ended xs (Ok n) = (n ≡ until_zero xs) × (n < length xs) × ((at : ℕ) → text_at at (take n xs) ≡ ok tt)
Ended xs (Err TextError.Unended) = length xs ≤ until_zero xs
Ended xs (Err (TextError.IllFormed n)) = (until_zero xs < length xs) × (n < until_zero xs) × ((at : ℕ) → text_at at (take (until_zero xs) xs) ≡ refused 27 (at + n))
