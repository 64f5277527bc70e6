-- Laws of one character, by its bytes: the table's forms whose first byte can be in a range, and the later bytes one by one.
-- Assumes nothing.
use Prim.Native.Nat.{ℕ, suc, ◌+◌, ◌≤◌, ◌<◌}
use mathlib.Core.Bool.{Bool, true, false, not, ◌&&◌, ◌||◌, and-true}
use mathlib.Core.Path.{◌≡◌, refl, sym, ap, ◌∙◌}
use mathlib.Core.List.{List, [], ◌∷◌}
use native.Mathlib.Omega.{arith}
use lib.ListN.{length, get_or, drop, drop_of_length-le}
use lib.Seq.{drop-cons, drop-drop}
use lib.Dec.{leb, ltb}
use borrow.Author.Tests.{ltb-true, not-true, not-false, le-leb, lt-leb}
use Rattle.utf8.specs.Utf8.{Range, forms}
use Rattle.utf8.specs.Text.{starts, character_of}
use Rattle.utf8.specs.Inner.{counted}
use Rattle.utf8.proofs.Longest.{past, found}

-- ---- bytes one by one

pub no_byte : (r : Range) (s : List ℕ) (i : ℕ) → length s ≤ i → starts (r ∷ []) (drop i s) ≡ false
unfolding starts
no_byte r s i h = rw (drop_of_length-le s h)

pub a_byte : (r : Range) (s : List ℕ) (i : ℕ) → i < length s → starts (r ∷ []) (drop i s) ≡ (leb r.low (get_or s i 0) && leb (get_or s i 0) r.high)
unfolding starts
a_byte r s i h = rw (drop-cons s i 0 h, and-true)

apart : (r : Range) (rs : List Range) (xs : List ℕ) → starts (r ∷ rs) xs ≡ (starts (r ∷ []) xs && starts rs (drop 1 xs))
unfolding starts
apart r rs [] = refl
apart r rs (x ∷ xs) = rw and-true

next_byte : (r : Range) (rs : List Range) (s : List ℕ) (i : ℕ) → starts (r ∷ rs) (drop i s) ≡ (starts (r ∷ []) (drop i s) && starts rs (drop (i + 1) s))
next_byte r rs s i = rw (← drop-drop 1 i s) (apart r rs (drop i s))

-- with the test of the byte at place i as the code has it: negated, and answered
pub misses_byte : (r : Range) (rs : List Range) (s : List ℕ) (i : ℕ) {t : Bool} → t ≡ starts (r ∷ []) (drop i s) → not t ≡ true → starts (r ∷ rs) (drop i s) ≡ false
misses_byte r rs s i {t} e h = rw (next_byte r rs s i, ← e, not-true t h)

pub has_byte : (r : Range) (rs : List Range) (s : List ℕ) (i : ℕ) {t : Bool} → t ≡ starts (r ∷ []) (drop i s) → not t ≡ false
    → starts (r ∷ rs) (drop i s) ≡ starts rs (drop (i + 1) s)
has_byte r rs s i {t} e h = rw (next_byte r rs s i, ← e, not-false t h)

-- ---- the forms whose first byte can be in a range: no others begin at a byte of it

abbrev outside : Range → Range → Bool
outside q r = ltb r.high q.low || ltb q.high r.low

unfoldable pub meeting : Range → List (List Range) → List (List Range)
meeting q [] = []
meeting q ([] ∷ fs) = [] ∷ meeting q fs
meeting q ((r ∷ rs) ∷ fs) = elim (outside q r) [ true ↦ meeting q fs | false ↦ (r ∷ rs) ∷ meeting q fs ]

before : (r : Range) (rs : List Range) (x : ℕ) (xs : List ℕ) → x < r.low → starts (r ∷ rs) (x ∷ xs) ≡ false
unfolding starts
before r rs x xs h = rw (lt-leb _ _ h)

same_first : (form : List Range) (fs gs : List (List Range)) (xs : List ℕ) → character_of fs xs ≡ character_of gs xs → character_of (form ∷ fs) xs ≡ character_of (form ∷ gs) xs
same_first form fs gs xs h = go (starts form xs) refl
  where
    go : (t : Bool) → starts form xs ≡ t → character_of (form ∷ fs) xs ≡ character_of (form ∷ gs) xs
    go true e = found form fs xs true e ∙ sym (found form gs xs true e)
    go false e = found form fs xs false e ∙ h ∙ sym (found form gs xs false e)

module _ (q : Range) (x : ℕ) (xs : List ℕ) (l : q.low ≤ x) (h : x ≤ q.high) where
  misses : (r : Range) (rs : List Range) → outside q r ≡ true → starts (r ∷ rs) (x ∷ xs) ≡ false
  misses r rs e = go (ltb r.high q.low) (ltb q.high r.low) refl refl e
    where
      go : (a b : Bool) → ltb r.high q.low ≡ a → ltb q.high r.low ≡ b → (a || b) ≡ true → starts (r ∷ rs) (x ∷ xs) ≡ false
      go true b u v e = past r rs x xs (omega (arith, ltb-true r.high q.low u))
      go false b u v e = before r rs x xs (omega (arith, ltb-true q.high r.low (v ∙ e)))

  of_meeting : (fs : List (List Range)) → character_of fs (x ∷ xs) ≡ character_of (meeting q fs) (x ∷ xs)
  unfolding meeting
  of_meeting [] = refl
  of_meeting ([] ∷ fs) = same_first [] fs (meeting q fs) (x ∷ xs) (of_meeting fs)
  of_meeting ((r ∷ rs) ∷ fs) = go (of_meeting fs) (outside q r) refl
    where
      go : character_of fs (x ∷ xs) ≡ character_of (meeting q fs) (x ∷ xs) → (t : Bool) → outside q r ≡ t
          → character_of ((r ∷ rs) ∷ fs) (x ∷ xs) ≡ character_of (meeting q ((r ∷ rs) ∷ fs)) (x ∷ xs)
      go rest true e = rw (meeting, e) (found (r ∷ rs) fs (x ∷ xs) false (misses r rs e) ∙ rest)
      go rest false e = rw (meeting, e) (same_first (r ∷ rs) fs (meeting q fs) (x ∷ xs) rest)

-- one form alone, at a byte of its first range
alone : (r : Range) (rs : List Range) (x : ℕ) (xs : List ℕ) → r.low ≤ x → x ≤ r.high → character_of ((r ∷ rs) ∷ []) (x ∷ xs) ≡ counted (suc (length rs)) (starts rs xs)
unfolding character_of starts
alone r rs x xs l h = go (starts rs xs) (rw (le-leb _ _ l, le-leb _ _ h))
  where
    go : (t : Bool) → starts (r ∷ rs) (x ∷ xs) ≡ t → character_of ((r ∷ rs) ∷ []) (x ∷ xs) ≡ counted (suc (length rs)) t
    go true e = found (r ∷ rs) [] (x ∷ xs) true e
    go false e = found (r ∷ rs) [] (x ∷ xs) false e

-- ---- a character by its first byte

module _ (q : Range) (s : List ℕ) (n : 0 < length s) (l : q.low ≤ get_or s 0 0) (h : get_or s 0 0 ≤ q.high) where
  by_first : (fs : List (List Range)) → meeting q forms ≡ fs → character_of forms s ≡ character_of fs (get_or s 0 0 ∷ drop 1 s)
  by_first fs e = ap (character_of forms) (drop-cons s 0 0 n) ∙ of_meeting q (get_or s 0 0) (drop 1 s) l h forms ∙ ap (λ (gs : List (List Range)). character_of gs (get_or s 0 0 ∷ drop 1 s)) e

  -- in the first range of one form alone
  pub of_form : (rs : List Range) → meeting q forms ≡ (q ∷ rs) ∷ [] → character_of forms s ≡ counted (suc (length rs)) (starts rs (drop 1 s))
  of_form rs e = by_first ((q ∷ rs) ∷ []) e ∙ alone q rs (get_or s 0 0) (drop 1 s) l h

  -- in the first range of none
  pub of_none : meeting q forms ≡ [] → character_of forms s ≡ 0
  unfolding character_of
  of_none e = by_first [] e
