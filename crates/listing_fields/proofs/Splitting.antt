-- The words of the definitions are the library's: bytes before a newline, and fields between tabs.
-- Assumes nothing.
use Rattle.std.proofs.Common.{ℕ, suc, ◌+◌, ◌≤◌, min, ◌≡◌, ◌≢◌, ◌∙◌, ap, length, take, drop, ltb, ◌++◌, append_assoc, length-append, true, false, Bool, List, [], ◌∷◌, refl, sym, eqb, cond, arith}
use Rattle.std.specs.List.{IsFirstMatchOrLen, position_or_len, slice_split, onto_first}
use Rattle.std.proofs.lemmas.List.Recursion.{is_position_or_len}
use Rattle.std.proofs.lemmas.List.Sums.{position_or_len_is}
use Rattle.std.proofs.lemmas.Grind.{common_steps}
use Rattle.std.proofs.lemmas.List.{length-take-le}
use Rattle.std.proofs.Math.Seq.{take-append_seam, take-append-add}
use borrow.Author.Tests.{ltb-true, ltb-false}
use Rattle.listing_fields.proofs.Fields.{OneLine, until_line, until_split}
use Rattle.listing_lines.specs.Fields.{tab, newline}
use Rattle.listing_fields.specs.Numbers.{until_newline, ahead, fields_of}

newline_step : (x : ℕ) (xs : List ℕ) → until_newline (x ∷ xs) ≡ cond (eqb x newline) 0 (1 + until_newline xs)
unfolding until_newline
newline_step x xs = go (eqb x newline) refl
  where
    go : (b : Bool) → eqb x newline ≡ b → until_newline (x ∷ xs) ≡ cond b 0 (1 + until_newline xs)
    go true e = rw (until_newline, e)
    go false e = rw (until_newline, e) (omega arith)

pub until_newline_lem : (xs : List ℕ) → position_or_len (λ x. eqb x newline) xs ≡ until_newline xs
until_newline_lem xs = sym (is_position_or_len until_newline (λ x. eqb x newline) (unfold until_newline in refl) newline_step xs)

-- the place of the first newline
pub first_newline : (xs : List ℕ) (i : ℕ) → IsFirstMatchOrLen (λ x. eqb x newline) xs i → until_newline xs ≡ i
first_newline xs i h = go (ltb (length xs) i) refl
  where
    go : (b : Bool) → ltb (length xs) i ≡ b → until_newline xs ≡ i
    go true e = let l = ltb-true _ _ e in let f = h.0 (length xs) newline (omega arith) l in absurd (grind (arith, common_steps))
    go false e = sym (until_newline_lem xs) ∙ position_or_len_is (λ x. eqb x newline) xs i 0 (ltb-false _ _ e) (λ k l. h.0 k 0 (omega arith) l) (λ l. h.1 l 0)

pub until_front : (t ys : List ℕ) → until_newline (t ++ newline ∷ ys) ≤ length t
unfolding until_newline
until_front [] ys = omega arith
until_front (x ∷ t) ys = go (eqb x newline) (until_front t ys)
  where
    go : (b : Bool) → until_newline (t ++ newline ∷ ys) ≤ length t → ◌≤◌ (elim b [ true ↦ 0 | false ↦ suc (until_newline (t ++ newline ∷ ys)) ]) (suc (length t))
    go true h = omega arith
    go false h = omega arith

-- w is what stands up to the first newline of xs, as the library cuts it, and ys what is behind it
module _ (xs w ys : List ℕ) (i : ℕ) (whole : xs ≡ w ++ ys) (cut : length w ≡ min (i + 1) (length xs)) (first : IsFirstMatchOrLen (λ x. eqb x newline) xs i) where
  size : length w ≡ min (until_newline xs + 1) (length xs)
  size = rw (first_newline xs i first) cut

  -- it ends with a newline
  pub line_of : (t : List ℕ) → w ≡ t ++ newline ∷ [] → (xs ≡ t ++ newline ∷ ys) × OneLine t
  line_of t e =
      let s : xs ≡ t ++ newline ∷ ys = whole ∙ rw e (append_assoc t (newline ∷ []) ys) in
      let u : until_newline xs ≤ length t = rw s (until_front t ys) in
      let n : until_newline xs ≡ length t = omega (arith, size, ap length e, length-append t (newline ∷ []), ap length s, length-append t (newline ∷ ys)) in
      let l : t ≡ take (until_newline xs) xs = rw (n, s) (sym (take-append_seam t (newline ∷ ys))) in
      (s, rw (← l) at (until_line xs))

  -- it does not: there is none
  pub no_line : ((t : List ℕ) → w ≢ t ++ newline ∷ []) → length xs ≤ until_newline xs
  no_line none = go (ltb (until_newline xs) (length xs)) refl
    where
      go : (b : Bool) → ltb (until_newline xs) (length xs) ≡ b → length xs ≤ until_newline xs
      go false e = ltb-false _ _ e
      go true e =
          let u = until_newline xs in
          let f = take u xs in
          let less = ltb-true _ _ e in
          let split = until_split xs less in
          let n : length w ≡ length f + 1 = omega (arith, size, length-take-le u xs (omega arith)) in
          absurd (none f (sym (take-append_seam w ys)
          ∙ ap (take (length w)) (sym whole ∙ split)
          ∙ ap (λ m. take m (f ++ newline ∷ drop (suc u) xs)) n
          ∙ take-append-add f (newline ∷ drop (suc u) xs) 1))

ahead_onto : (x : ℕ) (fs : List (List ℕ)) → ahead x fs ≡ onto_first x fs
unfolding ahead
ahead_onto x [] = refl
ahead_onto x (f ∷ fs) = refl

pub fields_split : (xs : List ℕ) → fields_of xs ≡ slice_split (λ x. eqb x tab) xs
unfolding fields_of
fields_split [] = refl
fields_split (x ∷ xs) = go (eqb x tab) refl (fields_split xs)
  where
    go : (b : Bool) → eqb x tab ≡ b → fields_of xs ≡ slice_split (λ x. eqb x tab) xs → fields_of (x ∷ xs) ≡ cond b ([] ∷ slice_split (λ x. eqb x tab) xs) (onto_first x (slice_split (λ x. eqb x tab) xs))
    go true e ih = rw (fields_of, e, ih)
    go false e ih = rw (fields_of, e, ih) (ahead_onto x _)
