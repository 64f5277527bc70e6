-- The refreshed checksum is the definition's: what is xored into the register is only advanced over the bytes behind it.
-- Assumes nothing.
use mathlib.Core.Path.{◌≡◌, refl, sym, ap, ◌∙◌}
use mathlib.Core.List.{List, [], ◌∷◌, ◌++◌}
use Prim.Native.Nat.{ℕ, zero, suc, ◌+◌, ◌-◌, ◌*◌, ◌/◌, ◌%◌, ◌^◌, ◌≤◌, ◌<◌}
use native.Mathlib.Nat.{mod-eq_of_lt, mod-lt}
use native.Mathlib.Numerals.{one-add}
use native.Mathlib.Omega.{arith}
use lib.Dec.{lit<}
use lib.ListN.{length, take, replicate}
use lib.Bits.{bit_xor, bit_and, and_mask, xor_add_and, xor_comm, xor_self, xor_zero_r, xor_lt}
use Rattle.wire.specs.Bytes.{Bytes, word, le32}
use Rattle.wire.proofs.Bytes.{word_le32}
use Rattle.crc32c_tables.specs.Steps.{shift_bits}
use Rattle.crc32c_tables.proofs.Xor.{xor_assoc}
use Rattle.crc32c.specs.Crc.{into_byte, register_after, crc_of}
use Rattle.crc32c.proofs.Words.{little_endian}
use Rattle.crc32c.proofs.Laws.{register_append}
use Rattle.crc32c.proofs.Words.{register_word}
use Rattle.crc32c_refresh.specs.Refresh.{advance, refreshed, Refreshes}
use Rattle.crc32c_refresh.proofs.Operators.{advance_linear, advance_add, advance_lt}

-- the complement in 32 bits is the xor with all ones
complement : (x : ℕ) → x < 2 ^ 32 → 0xFFFF_FFFF - x ≡ bit_xor x 0xFFFF_FFFF
complement x h =
    let both : bit_and x 0xFFFF_FFFF ≡ x = and_mask x 32 ∙ mod-eq_of_lt h in
    omega (arith, xor_add_and x 0xFFFF_FFFF, both)

-- a byte goes into the register, which is then advanced over it
into : (c b : ℕ) → into_byte c b ≡ advance 1 (bit_xor c b)
unfolding into_byte advance
into c b = refl

-- zeros only advance it
register_zeros : (k n c : ℕ) → k ≤ n → register_after c (take k (replicate n 0)) ≡ advance k c
unfolding register_after
register_zeros zero n c h = unfold advance shift_bits in refl
register_zeros (suc k) zero c h = absurd (omega arith)
register_zeros (suc k) (suc n) c h =
    register_zeros k n (into_byte c 0) (omega arith) ∙ ap (advance k) (into c 0 ∙ ap (advance 1) (xor_zero_r c)) ∙ sym (advance_add 1 k c)
    ∙ ap (λ (j : ℕ). advance j c) (one-add k)

-- the register stays within its 32 bits
register_lt : (c : ℕ) (s : List ℕ) → c < 2 ^ 32 → Bytes s → register_after c s < 2 ^ 32
unfolding register_after
register_lt c [] h bytes = h
register_lt c (b ∷ s) h bytes =
    register_lt (into_byte c b) s (rw (into c b) (advance_lt 1 (bit_xor c b) (xor_lt 32 c b h (omega (arith, bytes 0))))) (λ k. bytes (suc k))

-- what is xored into the register before a byte, and before bytes, is only advanced over them
byte_change : (x y b : ℕ) → into_byte (bit_xor x y) b ≡ bit_xor (into_byte x b) (advance 1 y)
byte_change x y b =
    into (bit_xor x y) b ∙ ap (advance 1) (xor_assoc x y b ∙ ap (bit_xor x) (xor_comm y b) ∙ sym (xor_assoc x b y)) ∙ advance_linear 1 (bit_xor x b) y
    ∙ ap (λ (c : ℕ). bit_xor c (advance 1 y)) (sym (into x b))

register_change : (x y : ℕ) (s : List ℕ) → register_after (bit_xor x y) s ≡ bit_xor (register_after x s) (advance (length s) y)
unfolding register_after
register_change x y [] = unfold advance shift_bits in refl
register_change x y (b ∷ s) =
    ap (λ (c : ℕ). register_after c s) (byte_change x y b) ∙ register_change (into_byte x b) (advance 1 y) s
    ∙ ap (bit_xor (register_after (into_byte x b) s)) (sym (advance_add 1 (length s) y) ∙ ap (λ (n : ℕ). advance n y) (omega arith))

-- a word goes into the register as a whole
word_bytes : (w : ℕ) → Bytes (le32 w)
unfolding le32
word_bytes w zero = mod-lt w (lit< tt)
word_bytes w (suc zero) = mod-lt (w / 0x100) (lit< tt)
word_bytes w (suc (suc zero)) = mod-lt (w / 0x1_0000) (lit< tt)
word_bytes w (suc (suc (suc zero))) = mod-lt (w / 0x100_0000) (lit< tt)
word_bytes w (suc (suc (suc (suc i)))) = lit< tt

digits : (w : ℕ) → w < 2 ^ 32 → little_endian (le32 w) ≡ w
unfolding little_endian word le32
digits w h = omega (arith, word_le32 w [] h)

register_le32 : (x w : ℕ) → w < 2 ^ 32 → register_after x (le32 w) ≡ advance 4 (bit_xor x w)
unfolding advance le32
register_le32 x w h = register_word x (le32 w) (word_bytes w) ∙ ap (λ (n : ℕ). shift_bits 32 (bit_xor x n)) (digits w h)

-- the register over a message, by its word
over : (before behind : List ℕ) (w : ℕ) → w < 2 ^ 32
    → register_after 0xFFFF_FFFF (before ++ (le32 w ++ behind)) ≡ register_after (advance 4 (bit_xor (register_after 0xFFFF_FFFF before) w)) behind
over before behind w h =
    register_append 0xFFFF_FFFF before (le32 w ++ behind) ∙ register_append (register_after 0xFFFF_FFFF before) (le32 w) behind
    ∙ ap (λ (c : ℕ). register_after c behind) (register_le32 (register_after 0xFFFF_FFFF before) w h)

pub refreshes : Refreshes
unfolding refreshed crc_of
refreshes before behind old new hb hf ho hn =
    let r = register_after 0xFFFF_FFFF before in
    let x = advance 4 (bit_xor r old) in
    let d = bit_xor old new in
    let n = length behind in
    let e = advance (4 + n) d in
    let q = register_after x behind in
    let changed : bit_xor r new ≡ bit_xor (bit_xor r old) d =
    ap (bit_xor r) (sym (sym (xor_assoc old old new) ∙ ap (λ (y : ℕ). bit_xor y new) (xor_self old))) ∙ sym (xor_assoc r old d) in
    let after : register_after 0xFFFF_FFFF (before ++ (le32 new ++ behind)) ≡ bit_xor q e =
    over before behind new hn ∙ ap (λ (y : ℕ). register_after y behind) (ap (advance 4) changed ∙ advance_linear 4 (bit_xor r old) d)
    ∙ register_change x (advance 4 d) behind ∙ ap (bit_xor q) (sym (advance_add 4 n d)) in
    let hq : q < 2 ^ 32 = register_lt x behind (advance_lt 4 (bit_xor r old) (xor_lt 32 r old (register_lt 0xFFFF_FFFF before (lit< tt) hb) ho)) hf in
    let he : e < 2 ^ 32 = advance_lt (4 + n) d (xor_lt 32 old new ho hn) in
    ap (λ (y : ℕ). bit_xor (0xFFFF_FFFF - y) e) (over before behind old ho) ∙ ap (λ (y : ℕ). bit_xor y e) (complement q hq)
    ∙ xor_assoc q 0xFFFF_FFFF e ∙ ap (bit_xor q) (xor_comm 0xFFFF_FFFF e) ∙ sym (xor_assoc q e 0xFFFF_FFFF)
    ∙ sym (complement (bit_xor q e) (xor_lt 32 q e hq he)) ∙ ap (λ (y : ℕ). 0xFFFF_FFFF - y) (sym after)

-- the change goes over the bytes of the last block and the flag word's own as over zeros, and then over whole blocks
pub refreshed_by : (checksum old new following change r : ℕ) → change ≡ register_after (bit_xor old new) (take (4 + following % 256) (replicate 259 0))
    → r ≡ advance (256 * (following / 256)) change → bit_xor checksum r ≡ refreshed checksum old new following
unfolding refreshed
refreshed_by checksum old new following change r change-is r-is =
    let d = bit_xor old new in
    let few = 4 + following % 256 in
    let blocks = 256 * (following / 256) in
    let all : few + blocks ≡ 4 + following = omega arith in
    ap (bit_xor checksum)
    (r-is ∙ ap (advance blocks) (change-is ∙ register_zeros few 259 d (omega arith)) ∙ sym (advance_add few blocks d) ∙ ap (λ (n : ℕ). advance n d) all)
