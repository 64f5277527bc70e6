-- Document 01's PING: the message of its trials and of its listing's example.
-- Assumes nothing: these are definitions.
use Rattle.std.specs.Prelude.{ℕ, List, [], ◌∷◌}

-- header, flag word 0, and a body with the 32-bit number `ping` of 1
abbrev pub ping : List ℕ
ping =
    0x24 ∷ 0 ∷ 0 ∷ 0 ∷ 7 ∷ 0 ∷ 0 ∷ 0 ∷ 0 ∷ 0 ∷ 0 ∷ 0 ∷ 0xDD ∷ 7 ∷ 0 ∷ 0
    ∷ 0 ∷ 0 ∷ 0 ∷ 0
    ∷ 0 ∷ 0x0F ∷ 0 ∷ 0 ∷ 0 ∷ 0x10 ∷ 0x70 ∷ 0x69 ∷ 0x6E ∷ 0x67 ∷ 0 ∷ 1 ∷ 0 ∷ 0 ∷ 0 ∷ 0 ∷ []
