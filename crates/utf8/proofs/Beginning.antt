-- Laws of the longest well-formed beginning of a text: it goes on behind a character or ends before none, and what a text's check finds by it.
-- Assumes nothing.
use Prim.Native.Nat.{ℕ, suc, ◌+◌, ◌≤◌, ◌<◌}
use mathlib.Core.Path.{◌≡◌, refl, ap, ◌∙◌}
use mathlib.Core.List.{List, [], ◌∷◌}
use native.Mathlib.Omega.{arith}
use lib.ListN.{length, take, drop, length-drop, take-append-drop}
use lib.Seq.{length-take-le}
use borrow.Author.Tests.{le-leb, lt-ltb, le-ltb}
use Rattle.wire.specs.Outcome.{ok, refused, refuse}
use Rattle.utf8.specs.Utf8.{forms}
use Rattle.utf8.specs.Text.{starts, character_of, characters_of, well_formed, text_at}
use Rattle.utf8.proofs.Longest.{of_character, turn, beginning, longest}

-- ---- as many characters at most as there are bytes are enough

at_least : (m n : ℕ) (xs : List ℕ) → length xs ≤ n → characters_of m xs ≤ characters_of n xs
at_least m n xs h =
    let b = beginning m xs in
    rw take-append-drop at (rw (length-take-le _ xs b.1) at (longest b.0 (drop (characters_of m xs) xs) n (rw take-append-drop h)))

enough : (most : ℕ) (xs : List ℕ) → length xs ≤ most → characters_of most xs ≡ well_formed xs
unfolding well_formed
enough most xs h = omega (arith, at_least most (length xs) xs (omega arith), at_least (length xs) most xs h)

-- ---- one character, or none

pub one : (xs : List ℕ) (n : ℕ) → character_of forms xs ≡ suc n → well_formed xs ≡ suc n + well_formed (drop (suc n) xs)
unfolding well_formed
one [] n e = absurd (omega (arith, (of_character forms [] n e).3))
one (x ∷ xs) n e = turn (length xs) (x ∷ xs) (suc n) e ∙ ap (λ (k : ℕ). suc n + k) (enough (length xs) (drop n xs) (omega (arith, length-drop n xs)))

pub none : (xs : List ℕ) → character_of forms xs ≡ 0 → well_formed xs ≡ 0
unfolding well_formed characters_of
none [] e = refl
none (x ∷ xs) e = turn (length xs) (x ∷ xs) 0 e

-- a character of one byte
pub byte_character : (x : ℕ) (xs : List ℕ) → x < 0x80 → character_of forms (x ∷ xs) ≡ 1
unfolding forms starts character_of
byte_character x xs h = rw (character_of, le-leb 0 x (omega arith), le-leb x 0x7F (omega arith))

-- ---- what the check of a front finds, of which m bytes are well-formed

module _ (n m : ℕ) (xs : List ℕ) (fits : n ≤ length xs) (is : m ≡ well_formed (take n xs)) (at : ℕ) where
  pub front_refused : m < n → text_at at (take n xs) ≡ refused 27 (at + m)
  unfolding text_at refuse
  front_refused h = rw (text_at, ← is, length-take-le n xs fits, lt-ltb m n h)

  pub front_passed : n ≤ m → text_at at (take n xs) ≡ ok tt
  unfolding text_at refuse
  front_passed h = rw (text_at, ← is, length-take-le n xs fits, le-ltb m n h)
