-- The tables near and far are the lists whose rule is a law: antt computes them.
-- Assumes nothing.
use mathlib.Core.Path.{◌≡◌, refl, ap, ◌∙◌}
use Prim.Native.Nat.{ℕ, ◌+◌, ◌*◌, ◌/◌, ◌%◌, ◌<◌}
use lib.ListN.{get_or}
use Rattle.crc32c_tables.specs.Steps.{shift_bit, shift_bits}
use Rattle.crc32c_tables.specs.declared.TheConstants.{NEAR, FAR}
use Rattle.crc32c_tables.proofs.Tabulate.{powers, rows, rows_rule}

NEAR_is : NEAR ≡ rows 8 (powers 8 8 0)
unfolding shift_bits shift_bit
NEAR_is = refl

FAR_is : FAR ≡ rows 8 (powers 72 8 0)
unfolding shift_bits shift_bit
FAR_is = refl

pub NEAR_at : (i : ℕ) → i < 2048 → get_or NEAR i 0 ≡ shift_bits (8 + 8 * (i / 256)) (i % 256)
NEAR_at i h = ap (λ t. get_or t i 0) NEAR_is ∙ rows_rule 8 8 i h

pub FAR_at : (i : ℕ) → i < 2048 → get_or FAR i 0 ≡ shift_bits (72 + 8 * (i / 256)) (i % 256)
FAR_at i h = ap (λ t. get_or t i 0) FAR_is ∙ rows_rule 8 72 i h
