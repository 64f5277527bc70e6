-- Parts of a run of bytes, as code slices them and as it stores them.
-- Assumes nothing.
use Prim.Native.Nat.{ℕ, zero, suc, ◌+◌, ◌-◌, ◌≤◌, ◌<◌}
use mathlib.Core.Path.{◌≡◌, sym, ◌∙◌}
use mathlib.Core.List.{List, [], ◌∷◌, ◌++◌, append_assoc, append-nil}
use native.Mathlib.Omega.{arith}
use lib.ListN.{length, take, drop, set, length-drop, drop_of_length-le}
use lib.Seq.{drop-drop, take_all, take-length, take-nil, sets-eq}
use borrow.Rule.Slice.PartMut.{put_mid}
use borrow.Author.Tests.{le-leb, lt-leb}
use Rattle.wire.specs.Bytes.{put}

-- the part `&xs[a..]`
pub rest_part : (a : ℕ) (xs : List ℕ) → take (length xs - a) (drop a xs) ≡ drop a xs
rest_part a xs = take_all (length xs - a) (drop a xs) (omega (arith, length-drop a xs))

drop_take : (k m : ℕ) (xs : List ℕ) → drop k (take m xs) ≡ take (m - k) (drop k xs)
drop_take zero m xs = let e : m - 0 ≡ m = omega arith in rw e
drop_take (suc k) zero xs = let e : 0 - suc k ≡ 0 = omega arith in rw e
drop_take (suc k) (suc m) [] = sym (take-nil (suc m - suc k))
drop_take (suc k) (suc m) (x ∷ xs) = let e : suc m - suc k ≡ m - k = omega arith in rw e (drop_take k m xs)

-- what is left of the part `&xs[i..end]` behind its first k bytes
pub next_part : (i k end : ℕ) (xs : List ℕ) → drop k (take (end - i) (drop i xs)) ≡ take (end - (i + k)) (drop (i + k) xs)
next_part i k end xs = let e : end - i - k ≡ end - (i + k) = omega arith in rw (drop_take, drop-drop, e)

-- bytes are put where they fit
pub put_fits : (at : ℕ) (xs old : List ℕ) → at + length xs ≤ length old → put at xs old ≡ take at old ++ xs ++ drop (at + length xs) old
unfolding put
put_fits at xs old h = rw (put, le-leb _ _ h)

pub put_too_long : (at : ℕ) (xs old : List ℕ) → length old < at + length xs → put at xs old ≡ old
unfolding put
put_too_long at xs old h = rw (put, lt-leb _ _ h)

-- a whole that was copied into the part `&mut old[at..]`
pub put_part : (at : ℕ) (xs old new : List ℕ) → at + length xs ≤ length old → new ≡ take (length xs) xs ++ drop (length xs) (take (length old - at) (drop at old))
    → put_mid at (length old - at) old new ≡ put at xs old
put_part at xs old new h e =
    let whole : new ≡ xs ++ drop (at + length xs) old = e ∙ rw (rest_part at old, take-length xs, drop-drop (length xs) at old) in
    let none : drop (length old - at) (drop at old) ≡ [] = drop-drop (length old - at) at old ∙ drop_of_length-le old {i = at + (length old - at)} (omega arith) in
    rw (none, append-nil new, whole, put_fits at xs old h) (sym (append_assoc (take at old) xs (drop (at + length xs) old)))

-- four bytes stored one after the other
pub put_four : (at a b c d : ℕ) (old : List ℕ) → at + 4 ≤ length old
    → set (set (set (set old at a) (at + 1) b) (at + 2) c) (at + 3) d ≡ put at (a ∷ b ∷ c ∷ d ∷ []) old
put_four at a b c d old h =
    let e₁ : at + 1 ≡ suc at = omega arith in
    let e₂ : at + 2 ≡ suc (suc at) = omega arith in
    let e₃ : at + 3 ≡ suc (suc (suc at)) = omega arith in
    rw (e₁, e₂, e₃, put_fits at (a ∷ b ∷ c ∷ d ∷ []) old h) (sets-eq (a ∷ b ∷ c ∷ d ∷ []) old at h)
