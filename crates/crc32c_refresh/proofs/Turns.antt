-- The turns of the loops over an operator's numbers.
-- Assumes nothing.
use mathlib.Core.Path.{◌≡◌, refl, sym, ap, ◌∙◌}
use mathlib.Core.List.{List, [], ◌∷◌, ◌++◌, map, append-nil, append_assoc, map-append}
use Prim.Native.Nat.{ℕ, zero, suc, ◌+◌, ◌*◌, ◌/◌, ◌%◌, ◌^◌, ◌≤◌, ◌<◌}
use native.Mathlib.Nat.{le_refl, pow-suc}
use native.Mathlib.Numerals.{add-one}
use native.Mathlib.Omega.{arith}
use lib.Arith.{lt-one}
use lib.Dec.{eqb}
use lib.ListN.{length, take, drop, get_or, set, length-map}
use lib.Seq.{take_all, take-suc, drop-cons, drop-length, set_at, length-take-le, get_or-append-add, get_or-drop}
use lib.Bits.{bit_xor, xor_zero_r}
use Rattle.crc32c_tables.proofs.Xor.{xor_assoc}
use Rattle.crc32c_refresh.specs.Operator.{apply, composed, squared, turned, squaring}

-- ---- an operator applied bit by bit: its numbers from k on, to the bits that are left

pub apply_turn : (m : List ℕ) (r rest k d : ℕ) → k < length m → d ≡ rest % 2 * get_or m k 0
    → bit_xor (bit_xor r d) (apply (drop (k + 1) m) (rest / 2)) ≡ bit_xor r (apply (drop k m) rest)
unfolding apply
apply_turn m r rest k d h e = rw (e, drop-cons m k 0 h, add-one) (xor_assoc r (rest % 2 * get_or m k 0) (apply (drop (suc k) m) (rest / 2)))

pub apply_end : (m : List ℕ) (r rest k : ℕ) → k ≡ length m → bit_xor r (apply (drop k m) rest) ≡ r
unfolding apply
apply_end m r rest k e = rw (e, drop-length) (xor_zero_r r)

-- ---- two operators, number by number: the first i are made

abbrev pub made : List ℕ → List ℕ → ℕ → List ℕ
made m k i = map (apply m) (take i k) ++ drop i k

pub compose_turn : (m k r : List ℕ) (i x : ℕ) → i < length k → r ≡ made m k i → x ≡ apply m (get_or k i 0) → set r i x ≡ made m k (i + 1)
compose_turn m k r i x h e q =
    let f = apply m in
    let y = get_or k i 0 in
    let rest = drop (i + 1) k in
    let first = map f (take i k) in
    let long : length first ≡ i = length-map (take i k) f ∙ length-take-le i k (omega arith) in
    let split : drop i k ≡ y ∷ rest = simp add-one (drop-cons k i 0 h) in
    let more : map f (take (i + 1) k) ≡ first ++ (x ∷ []) = rw (add-one, take-suc k i 0 h, q) (map-append f (take i k) (y ∷ [])) in
    ap (λ (l : List ℕ). set l i x) (e ∙ ap (λ (l : List ℕ). first ++ l) split) ∙ set_at first y rest x i long
    ∙ sym (rw more (append_assoc first (x ∷ []) rest))

-- the number that comes next is still that of k
pub next_made : (m k : List ℕ) (i : ℕ) → i < length k → get_or (made m k i) i 0 ≡ get_or k i 0
next_made m k i h =
    let first = map (apply m) (take i k) in
    let long : length first ≡ i = length-map (take i k) (apply m) ∙ length-take-le i k (omega arith) in
    let at : i ≡ length first + 0 = omega arith in
    let none : i + 0 ≡ i = omega arith in
    ap (λ (n : ℕ). get_or (made m k i) n 0) at ∙ get_or-append-add first (drop i k) 0 0 ∙ get_or-drop i k 0 0 ∙ ap (λ (n : ℕ). get_or k n 0) none

pub compose_end : (m k : List ℕ) (i : ℕ) → i ≡ length k → made m k i ≡ composed m k
unfolding composed
compose_end m k i e = rw (e, drop-length, take_all (length k) k (le_refl (length k))) (append-nil (map (apply m) k))

-- ---- by repeated squaring: so many turns are left, and the number has no more bits

pub record Squaring (m : List ℕ) (left change goal : ℕ) : Type 0 where
  pub turns : ℕ
  pub enough : left < 2 ^ turns
  pub rest : squaring turns m left change ≡ goal

-- where no bit is left, nothing changes
squaring_none : (turns : ℕ) (m : List ℕ) (change : ℕ) → squaring turns m 0 change ≡ change
unfolding squaring
squaring_none zero m change = refl
squaring_none (suc turns) m change = squaring_none turns (squared m) change

one_more : (turns : ℕ) (m : List ℕ) (left change goal d : ℕ) (n : List ℕ) → left < 2 ^ turns → squaring turns m left change ≡ goal → 0 < left
    → d ≡ turned m (eqb (left % 2) 1) change → n ≡ squared m → Squaring n (left / 2) d goal
unfolding squaring
one_more zero m left change goal d n enough rest h d-is n_is = absurd (omega arith)
one_more (suc turns) m left change goal d n enough rest h d-is n_is = record { turns = turns; enough = omega (arith, pow-suc 2 turns); rest = rw (d-is, n_is) rest }

pub squaring_turn : (m : List ℕ) (left change goal d : ℕ) (n : List ℕ) → Squaring m left change goal → 0 < left → d ≡ turned m (eqb (left % 2) 1) change
    → n ≡ squared m → Squaring n (left / 2) d goal
squaring_turn m left change goal d n before = one_more before.turns m left change goal d n before.enough before.rest

last_one : (turns : ℕ) (m : List ℕ) (left change : ℕ) → left < 2 ^ turns → left ≤ 1 → turned m (eqb (left % 2) 1) change ≡ squaring turns m left change
unfolding squaring
last_one zero m left change enough h = rw (lt-one enough)
last_one (suc turns) m left change enough h =
    let none : left / 2 ≡ 0 = omega arith in
    rw none (sym (squaring_none turns (squared m) (turned m (eqb (left % 2) 1) change)))

pub squaring_end : (m : List ℕ) (left change goal d : ℕ) → Squaring m left change goal → left ≤ 1 → d ≡ turned m (eqb (left % 2) 1) change → d ≡ goal
squaring_end m left change goal d before h d-is = d-is ∙ last_one before.turns m left change before.enough h ∙ before.rest
