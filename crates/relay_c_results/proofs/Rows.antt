-- Numbers stored one after the other, and rows of them one behind the other.
-- Assumes nothing.
use Prim.Native.Nat.{ℕ, suc, ◌+◌, ◌*◌, ◌^◌, ◌≤◌, ◌<◌}
use mathlib.Core.Path.{◌≡◌, refl, sym, ap, ap₂, ◌∙◌}
use mathlib.Core.List.{List, [], ◌∷◌, ◌++◌, append_assoc, append-nil}
use native.Mathlib.Omega.{arith}
use native.Mathlib.Numerals.{add-one}
use lib.ListN.{length, get_or, take, drop, set, length-append, length-take, length-drop, take-append-drop}
use lib.Seq.{sets-eq, take-suc, take_all, take_at, drop-append-add, drop-drop}
use lib.IntN.{ℤ, pos, negsuc}
use mir.Syntax.{w32, w64}
use mir.Val.{SFits, to_z, of_z}
use mir.Facts.{to_z-of_z}
use borrow.Author.Tests.{lt-ltb}
use Rattle.opmsg.specs.declared.Section.{Section}
use Rattle.opmsg.specs.declared.Section.TheVariants.{None, Body, Sequence}
use Rattle.opmsg.specs.declared.Entry.{Entry}
use Rattle.opmsg.specs.declared.View.{View}
use Rattle.opmsg.proofs.Entries.{no_entry, said_at}
use Rattle.relay_c_results.specs.Numbers.{section_numbers, list_numbers, view_numbers, view_size}

-- a 32-bit number is the same as a signed one of 64 bits
pub small : (n : ℕ) → n < 2 ^ 32 → to_z w64 n ≡ pos n
small n h = simp (lt-ltb n (2 ^ 63) (omega arith))

-- and so is a signed one
wide : (x : ℤ) → SFits w32 x → SFits w64 x
wide (pos n) f = record { sfits = omega (arith, f.sfits) }
wide (negsuc n) f = record { sfits = omega (arith, f.sfits) }

-- five numbers at the start
five : (old : List ℤ) (a b c d e : ℤ) → 5 ≤ length old → set (set (set (set (set old 0 a) 1 b) 2 c) 3 d) 4 e ≡ (a ∷ b ∷ c ∷ d ∷ e ∷ []) ++ drop 5 old
five old a b c d e l = sets-eq (a ∷ b ∷ c ∷ d ∷ e ∷ []) old 0 l

module _ (x : ℤ) (fits : SFits w32 x) where
  pub id_fits : SFits w64 (to_z w32 (of_z w32 x))
  id_fits = rw (to_z-of_z fits) (wide x fits)

  pub id_same : to_z w64 (of_z w64 (to_z w32 (of_z w32 x))) ≡ x
  id_same = rw (to_z-of_z fits) (to_z-of_z (wide x fits))

-- six numbers from a place on
pub six : (old : List ℤ) (at : ℕ) (a b c d e f : ℤ) → at + 6 ≤ length old
    → set (set (set (set (set (set old at a) (at + 1) b) (at + 2) c) (at + 3) d) (at + 4) e) (at + 5) f ≡ take at old ++ (a ∷ b ∷ c ∷ d ∷ e ∷ f ∷ []) ++ drop (at + 6) old
six old at a b c d e f h =
    let e₁ : at + 1 ≡ suc at = omega arith in
    let e₂ : at + 2 ≡ suc (suc at) = omega arith in
    let e₃ : at + 3 ≡ suc (suc (suc at)) = omega arith in
    let e₄ : at + 4 ≡ suc (suc (suc (suc at))) = omega arith in
    let e₅ : at + 5 ≡ suc (suc (suc (suc (suc at)))) = omega arith in
    rw (e₁, e₂, e₃, e₄, e₅) (sets-eq (a ∷ b ∷ c ∷ d ∷ e ∷ f ∷ []) old at h)

-- rows of six numbers each
section_length : (q : Section) → length (section_numbers q) ≡ 6
unfolding section_numbers
section_length None = refl
section_length (Body range) = refl
section_length (Sequence identifier documents number) = refl

list_length : (xs : List Entry) → length (list_numbers xs) ≡ 6 * length xs
unfolding list_numbers
list_length [] = refl
list_length (x ∷ xs) = length-append (section_numbers x.section) (list_numbers xs) ∙ omega (arith, section_length x.section, list_length xs)

list_append : (xs ys : List Entry) → list_numbers (xs ++ ys) ≡ list_numbers xs ++ list_numbers ys
unfolding list_numbers
list_append [] ys = refl
list_append (x ∷ xs) ys = ap (λ (l : List ℤ). section_numbers x.section ++ l) (list_append xs ys) ∙ sym (append_assoc (section_numbers x.section) (list_numbers xs) (list_numbers ys))

-- the numbers of the first i entries stand behind the first 5, and behind them what stood there
pub record Listed (old : List ℤ) (xs : List Entry) (i : ℕ) (now : List ℤ) : Type 0 where
  pub all : length xs ≡ 17
  pub room : 107 ≤ length old
  pub within : i ≤ 17
  pub is : now ≡ take 5 old ++ list_numbers (take i xs) ++ drop (5 + 6 * i) old

pub listed_none : {old : List ℤ} {xs : List Entry} → length xs ≡ 17 → 107 ≤ length old → Listed old xs 0 old
unfolding list_numbers
listed_none {old} all room = record { all = all; room = room; within = omega arith; is = rw (append-nil (take 5 old)) (sym (take-append-drop 5 old)) }

one_more : (xs : List Entry) (i : ℕ) → i < length xs → list_numbers (take (i + 1) xs) ≡ list_numbers (take i xs) ++ section_numbers (said_at xs i)
unfolding list_numbers
one_more xs i l =
    let more : take (i + 1) xs ≡ take i xs ++ (get_or xs i no_entry ∷ []) = rw (add-one i) (take-suc xs i no_entry l) in
    ap list_numbers more ∙ list_append (take i xs) (get_or xs i no_entry ∷ []) ∙ ap (λ (l : List ℤ). list_numbers (take i xs) ++ l) (append-nil (section_numbers (said_at xs i)))

module _ {old : List ℤ} {xs : List Entry} {i : ℕ} {now : List ℤ} (k : Listed old xs i now) where
  abbrev rows : List ℤ
  rows = take 5 old ++ list_numbers (take i xs)

  rows_length : length rows ≡ 5 + 6 * i
  rows_length = length-append (take 5 old) (list_numbers (take i xs)) ∙ rw (list_length (take i xs), length-take i xs, length-take 5 old) (omega (arith, k.all, k.room, k.within))

  pub listed_long : length now ≡ length old
  listed_long = ap length k.is ∙ length-append rows (drop (5 + 6 * i) old) ∙ rw (rows_length, length-drop (5 + 6 * i) old) (omega (arith, k.room, k.within))

  -- one entry more
  pub listed_next : i < 17 → (q : Section) → said_at xs i ≡ q → {next : List ℤ} → next ≡ take (5 + 6 * i) now ++ section_numbers q ++ drop (5 + 6 * i + 6) now → Listed old xs (i + 1) next
  listed_next l q said e =
      let first : take (5 + 6 * i) now ≡ rows = ap (take (5 + 6 * i)) k.is ∙ take_at rows _ (5 + 6 * i) rows_length in
      let place : 5 + 6 * i + 6 ≡ 5 + 6 * (i + 1) = omega arith in
      let rest : drop (5 + 6 * i + 6) now ≡ drop (5 + 6 * (i + 1)) old =
      ap (drop (5 + 6 * i + 6)) k.is ∙ ap (λ (n : ℕ). drop (n + 6) (rows ++ drop (5 + 6 * i) old)) (sym rows_length)
      ∙ drop-append-add rows (drop (5 + 6 * i) old) 6 ∙ drop-drop 6 (5 + 6 * i) old ∙ ap (λ (n : ℕ). drop n old) place in
      record {
        all = k.all;
        room = k.room;
        within = omega arith;
        is = e ∙ ap₂ (λ (a b : List ℤ). a ++ section_numbers q ++ b) first rest
            ∙ rw (one_more xs i (omega (arith, k.all)), said) (ap (λ (a : List ℤ). a ++ drop (5 + 6 * (i + 1)) old) (append_assoc (take 5 old) (list_numbers (take i xs)) (section_numbers q)));
      }

  -- all of them
  pub listed_all : 17 ≤ i → now ≡ take 5 old ++ list_numbers xs ++ drop 107 old
  listed_all l = let e : i ≡ 17 = omega (arith, k.within) in rw (take_all 17 xs (omega (arith, k.all))) at (rw e at k.is)

-- the five numbers and the list behind them are the view's
pub all_shown : (v : View) (old new : List ℤ) {a b c d e : ℤ} → 107 ≤ length old → a ≡ pos v.length → b ≡ v.request_id → c ≡ v.response_to → d ≡ pos v.flags → e ≡ pos v.elements
    → (let first = set (set (set (set (set old 0 a) 1 b) 2 c) 3 d) 4 e in new ≡ take 5 first ++ list_numbers v.entries ++ drop 107 first)
    → new ≡ view_numbers v ++ drop view_size old
unfolding view_numbers view_size
all_shown v old new room ea eb ec ed ee is = is ∙ rw (five old _ _ _ _ _ (omega arith), ea, eb, ec, ed, ee, drop-drop 102 5 old)
