-- What the laws of one character (`proofs/Forms.antt`) and the contracts of `utf8_text` count.
-- Assumes nothing: these are definitions.
use Rattle.std.specs.Prelude.{ℕ, Bool, true, false}

-- so many bytes, where a test holds
abbrev pub counted : (n : ℕ) → Bool → ℕ
counted n true = n
counted n false = 0
