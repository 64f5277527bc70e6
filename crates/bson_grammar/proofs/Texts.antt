-- Bytes as the grammar writes them and as the reader finds them: a number and what it counts, with a zero behind, and zero_ended strings.
-- Assumes nothing.
use Prim.Native.Nat.{ℕ, suc, ◌+◌, ◌-◌, ◌^◌, ◌≤◌, ◌<◌}
use mathlib.Core.Bool.{Bool, true, false}
use mathlib.Core.Path.{◌≡◌, refl, sym, ap, ◌∙◌}
use mathlib.Core.List.Memᴰ
use mathlib.Core.List.{List, [], ◌∷◌, ◌++◌, append_assoc}
use mathlib.Core.Logic.{inl, inr}
use native.Mathlib.Numerals.{add-one}
use native.Mathlib.Omega.{arith}
use lib.ListN.{length, get_or, take, drop, length-append, length-take, length-drop}
use lib.Seq.{take-add, take-suc, take_at, get_or_at, get_or-drop}
use lib.Dec.{eqb}
use borrow.Author.Tests.{eqb-false, ne_eqb}
use Rattle.wire.specs.Bytes.{Bytes, word, le32, until_zero}
use Rattle.wire.proofs.Bytes.{word_le32, le32_word, until_stop, until_go, until_zero_lem}
use Rattle.utf8.specs.Utf8.{Utf8}
use Rattle.bson_grammar.specs.Grammar.{◌∈◌, ZeroEnded, String, Document, Element}

-- ---- a number, bytes and a zero, where the number is that of the bytes and c more: a string where c is 1, a document where c is 5

pub parted : (c : ℕ) (xs : List ℕ) → c ≤ word xs → word xs - c + 5 ≤ length xs → Bytes xs → get_or xs (4 + (word xs - c)) 0 ≡ 0
    → let ys : List ℕ = take (word xs - c) (drop 4 xs) in
    (length ys + c ≡ word xs) × (take (word xs - c + 5) xs ≡ le32 (length ys + c) ++ ys ++ 0 ∷ [])
unfolding le32
parted c xs low fits b z =
    let n : ℕ = word xs - c in
    let e : n + 5 ≡ 4 + suc n = omega arith in
    let four : 4 ≤ length xs = omega arith in
    let some : n < length (drop 4 xs) = simp length-drop (omega arith) in
    let total : length (take n (drop 4 xs)) + c ≡ word xs = simp (length-take, length-drop) (omega arith) in
    (total, rw (total, e, take-add 4 (suc n) xs, ← le32_word xs b four, take-suc (drop 4 xs) n 0, get_or-drop 4 xs n, z))

-- what stands before a zero
pub before : (xs rest : List ℕ) → take (length xs) (xs ++ 0 ∷ [] ++ rest) ≡ xs
before xs rest = ap (take (length xs)) (append_assoc xs (0 ∷ []) rest) ∙ take_at xs (0 ∷ rest) (length xs) refl

pub joined : (w : ℕ) (xs rest : List ℕ) → w < 2 ^ 32
    → let whole : List ℕ = le32 w ++ xs ++ 0 ∷ [] ++ rest in
    (word whole ≡ w) × (length (le32 w ++ xs ++ 0 ∷ []) ≡ length xs + 5) × (length whole ≡ length xs + 5 + length rest)
    × (get_or whole (4 + length xs) 0 ≡ 0) × (take (length xs) (drop 4 whole) ≡ xs)
unfolding le32
joined w xs rest h = (
  word_le32 w (xs ++ 0 ∷ [] ++ rest) h,
  simp length-append (omega arith),
  simp length-append (omega arith),
  rw append_assoc (get_or_at (le32 w ++ xs) 0 rest 0 (4 + length xs) (simp length-append)),
  before xs rest,
)

-- ---- zero_ended strings

pub none_before : (xs : List ℕ) → ¬ (0 ∈ take (until_zero xs) xs)
unfolding until_zero
none_before [] = Memᴰ.not-nil
none_before (x ∷ xs) = go (eqb x 0) refl (none_before xs)
  where
    go : (t : Bool) → eqb x 0 ≡ t → ¬ (0 ∈ take (until_zero xs) xs) → ¬ (0 ∈ take (until_zero (x ∷ xs)) (x ∷ xs))
    go true e below = rw (until_stop x xs e) Memᴰ.not-nil
    go false e below = rw (until_go x xs e) (λ m. elim (Memᴰ.cases_cons m) [ inl z ↦ eqb-false x 0 e (sym z) | inr m ↦ below m ])

pub zero_ended : (xs : List ℕ) → until_zero xs < length xs → Utf8 (take (until_zero xs) xs) → ZeroEnded (take (suc (until_zero xs)) xs)
zero_ended xs h u = rw (take-suc xs (until_zero xs) 0 h, until_zero_lem xs h) (ZeroEnded.ended (take (until_zero xs) xs) (none_before xs) u)

pub until_first : (xs rest : List ℕ) → ¬ (0 ∈ xs) → until_zero (xs ++ 0 ∷ [] ++ rest) ≡ length xs
until_first [] rest h = until_stop 0 rest refl
until_first (x ∷ xs) rest h = until_go x _ (ne_eqb x 0 (λ z. h (Memᴰ.head (sym z)))) ∙ ap suc (until_first xs rest (λ m. h (Memᴰ.tail m)))

pub until_ended : {xs : List ℕ} (rest : List ℕ) → ZeroEnded xs
    → (suc (until_zero (xs ++ rest)) ≡ length xs) × Utf8 (take (until_zero (xs ++ rest)) (xs ++ rest))
until_ended rest (ZeroEnded.ended xs h u) = rw (until_first xs rest h) (simp length-append (sym (add-one _)), rw (before xs rest) u)

-- ---- how many bytes there are at least

pub string_long : {xs : List ℕ} → String xs → 5 ≤ length xs
unfolding le32
string_long (String.string xs h u) = simp length-append (omega arith)

pub document_long : {k n : ℕ} {xs : List ℕ} → Document k xs n → 5 ≤ length xs
unfolding le32
document_long (Document.document es h) = simp length-append (omega arith)

pub element_long : {k n : ℕ} {xs : List ℕ} → Element k xs n → 1 ≤ length xs
element_long (Element.element name value) = omega arith
