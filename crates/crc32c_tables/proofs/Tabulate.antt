-- Tables as lists that antt computes: a row's entries from those at the powers of two, by the linear law, and each row from
-- the one before; and the rule of their entries.
-- Assumes nothing.
use mathlib.Core.Path.{◌≡◌, refl, ◌∙◌, ap, ap₂, sym}
use mathlib.Core.List.{List, [], ◌∷◌, ◌++◌, map}
use Prim.Native.Nat.{ℕ, zero, suc, ◌+◌, ◌*◌, ◌/◌, ◌%◌, ◌^◌, ◌<◌}
use native.Mathlib.Nat.{le_of_suc-le-suc, not-suc-le-zero, pow-suc, suc-mul, zero-mul, mod-lt, zero-lt-suc, zero-add, mul-one, mul_comm, mul_assoc}
use native.Mathlib.Omega.{arith}
use lib.Bits.{bit_xor, xor_comm, xor_shifted}
use lib.ListN.{length, get_or, get_or-append}
use lib.Seq.{get_or-append-add}
use lib.Pow.{pow_pos}
use Rattle.crc32c_tables.specs.Steps.{shift_bits}
use Rattle.crc32c_tables.proofs.Laws.{linear, shift_add, shift_zero}

-- m steps of n powers of two, from the kth
abbrev pub powers : ℕ → ℕ → ℕ → List ℕ
powers m zero k = []
powers m (suc n) k = shift_bits m (2 ^ k) ∷ powers m n (suc k)

-- each entry, and beside it the entry with p added
abbrev pairs : ℕ → List ℕ → List ℕ
pairs p [] = []
pairs p (e ∷ t) = e ∷ bit_xor p e ∷ pairs p t

-- the row whose entries at the powers of two are ps
abbrev pub row : List ℕ → List ℕ
row [] = 0 ∷ []
row (p ∷ ps) = pairs p (row ps)

-- n rows: ps of the first, and each other is eight steps of the one before
abbrev pub rows : ℕ → List ℕ → List ℕ
rows zero ps = []
rows (suc n) ps = row ps ++ rows n (map (shift_bits 8) ps)

pairs_length : (p : ℕ) (t : List ℕ) → length (pairs p t) ≡ length t * 2
pairs_length p [] = refl
pairs_length p (e ∷ t) = ap (λ (n : ℕ). suc (suc n)) (pairs_length p t) ∙ omega arith

row_length : (m n k : ℕ) → length (row (powers m n k)) ≡ 2 ^ n
row_length m zero k = refl
row_length m (suc n) k = pairs_length (shift_bits m (2 ^ k)) (row (powers m n (suc k))) ∙ ap (λ (l : ℕ). l * 2) (row_length m n (suc k)) ∙ sym (pow-suc 2 n)

next_two : (j : ℕ) → suc j * 2 ≡ suc (suc (j * 2))
next_two j = omega arith

pairs_even : (p : ℕ) (t : List ℕ) (j : ℕ) → get_or (pairs p t) (j * 2) 0 ≡ get_or t j 0
pairs_even p [] j = refl
pairs_even p (e ∷ t) zero = refl
pairs_even p (e ∷ t) (suc j) = ap (λ (k : ℕ). get_or (pairs p (e ∷ t)) k 0) (next_two j) ∙ pairs_even p t j

pairs_odd : (p : ℕ) (t : List ℕ) (j : ℕ) → j < length t → get_or (pairs p t) (suc (j * 2)) 0 ≡ bit_xor p (get_or t j 0)
pairs_odd p [] j h = absurd (not-suc-le-zero h)
pairs_odd p (e ∷ t) zero h = refl
pairs_odd p (e ∷ t) (suc j) h = ap (λ (k : ℕ). get_or (bit_xor p e ∷ pairs p t) k 0) (next_two j) ∙ pairs_odd p t j (le_of_suc-le-suc h)

-- a number and its double, at a power of two
up : (k j : ℕ) → j * 2 ^ suc k ≡ j * 2 * 2 ^ k
up k j = ap (λ (q : ℕ). j * q) (pow-suc 2 k ∙ mul_comm (2 ^ k) 2) ∙ sym (mul_assoc j 2 (2 ^ k))

up_one : (k j : ℕ) → bit_xor (2 ^ k) (j * 2 ^ suc k) ≡ suc (j * 2) * 2 ^ k
up_one k j =
    xor_comm (2 ^ k) (j * 2 ^ suc k) ∙ xor_shifted j (suc k) (2 ^ k) below ∙ ap (λ (n : ℕ). n + 2 ^ k) (up k j) ∙ sym (suc-mul (j * 2) (2 ^ k))
  where
    below : 2 ^ k < 2 ^ suc k
    below =
        let two : 2 ^ suc k ≡ 2 ^ k * 2 = pow-suc 2 k in
        let some : 0 < 2 ^ k = pow_pos k in
        omega (arith, two, some)

-- entry x of the row that has twice as many, by the half that it goes back to
twice : (m n k x : ℕ) → x < 2 ^ suc n → get_or (row (powers m n (suc k))) (x / 2) 0 ≡ shift_bits m (x / 2 * 2 ^ suc k)
    → get_or (row (powers m (suc n) k)) x 0 ≡ shift_bits m (x * 2 ^ k)
twice m n k x h half = by (x % 2) refl (mod-lt x (zero-lt-suc 1))
  where
    t : List ℕ
    t = row (powers m n (suc k))

    p : ℕ
    p = shift_bits m (2 ^ k)

    j : ℕ
    j = x / 2

    inside : j < length t
    inside =
        let two : 2 ^ suc n ≡ 2 ^ n * 2 = pow-suc 2 n in
        let size : length t ≡ 2 ^ n = row_length m n (suc k) in
        omega (arith, h, two, size)

    by : (c : ℕ) → x % 2 ≡ c → c < 2 → get_or (pairs p t) x 0 ≡ shift_bits m (x * 2 ^ k)
    by zero e l =
        let even : x ≡ j * 2 = omega (arith, e) in
        ap (λ (i : ℕ). get_or (pairs p t) i 0) even ∙ pairs_even p t j ∙ half ∙ ap (shift_bits m) (up k j ∙ ap (λ (i : ℕ). i * 2 ^ k) (sym even))
    by (suc zero) e l =
        let odd : x ≡ suc (j * 2) = omega (arith, e) in
        ap (λ (i : ℕ). get_or (pairs p t) i 0) odd ∙ pairs_odd p t j inside ∙ ap (bit_xor p) half
        ∙ sym (linear m (2 ^ k) (j * 2 ^ suc k)) ∙ ap (shift_bits m) (up_one k j ∙ ap (λ (i : ℕ). i * 2 ^ k) (sym odd))
    by (suc (suc c)) e l = absurd (not-suc-le-zero (le_of_suc-le-suc (le_of_suc-le-suc l)))

-- entry x of the row of m steps
row_at : (m n k x : ℕ) → x < 2 ^ n → get_or (row (powers m n k)) x 0 ≡ shift_bits m (x * 2 ^ k)
row_at m zero k zero h = sym (shift_zero m) ∙ ap (shift_bits m) (sym (zero-mul (2 ^ k)))
row_at m zero k (suc x) h = absurd (not-suc-le-zero (le_of_suc-le-suc h))
row_at m (suc n) k x h = let two : 2 ^ suc n ≡ 2 ^ n * 2 = pow-suc 2 n in twice m n k x h (row_at m n (suc k) (x / 2) (omega (arith, h, two)))

-- the row of the powers from the first
pub row_rule : (m n x : ℕ) → x < 2 ^ n → get_or (row (powers m n 0)) x 0 ≡ shift_bits m x
row_rule m n x h = row_at m n 0 x h ∙ ap (shift_bits m) (mul-one x)

powers_next : (m n k : ℕ) → map (shift_bits 8) (powers m n k) ≡ powers (m + 8) n k
powers_next m zero k = refl
powers_next m (suc n) k = ap₂ ◌∷◌ (sym (shift_add m 8 (2 ^ k))) (powers_next m n (suc k))

rows_at : (n m : ℕ) (ps : List ℕ) (r b : ℕ) → ps ≡ powers m 8 0 → r < n → b < 256 → get_or (rows n ps) (r * 256 + b) 0 ≡ shift_bits (m + 8 * r) b
rows_at zero m ps r b e hr hb = absurd (not-suc-le-zero hr)
rows_at (suc n) m ps zero b e hr hb =
    let size : length (row ps) ≡ 256 = ap (λ (q : List ℕ). length (row q)) e ∙ row_length m 8 0 in
    let h : b < length (row ps) = omega (arith, size, hb) in
    ap (λ (k : ℕ). get_or (rows (suc n) ps) k 0) (zero-add b) ∙ get_or-append (row ps) (rows n (map (shift_bits 8) ps)) 0 b h
    ∙ ap (λ (q : List ℕ). get_or (row q) b 0) e ∙ row_rule m 8 b hb ∙ ap (λ (k : ℕ). shift_bits k b) (omega arith)
rows_at (suc n) m ps (suc r) b e hr hb =
    let qs = map (shift_bits 8) ps in
    let size : length (row ps) ≡ 256 = ap (λ (q : List ℕ). length (row q)) e ∙ row_length m 8 0 in
    let later : suc r * 256 + b ≡ length (row ps) + (r * 256 + b) = omega (arith, size) in
    ap (λ (k : ℕ). get_or (rows (suc n) ps) k 0) later ∙ get_or-append-add (row ps) (rows n qs) (r * 256 + b) 0
    ∙ rows_at n (m + 8) qs r b (ap (map (shift_bits 8)) e ∙ powers_next m 8 0) (le_of_suc-le-suc hr) hb ∙ ap (λ (k : ℕ). shift_bits k b) (omega arith)

-- entry x of n rows, the first of which is m steps of each byte
pub rows_rule : (n m x : ℕ) → x < n * 256 → get_or (rows n (powers m 8 0)) x 0 ≡ shift_bits (m + 8 * (x / 256)) (x % 256)
rows_rule n m x h =
    let whole : x ≡ x / 256 * 256 + x % 256 = omega arith in
    ap (λ (k : ℕ). get_or (rows n (powers m 8 0)) k 0) whole ∙ rows_at n m (powers m 8 0) (x / 256) (x % 256) refl (omega arith) (omega arith)
