-- What is read as text is UTF-8: the theorem of `specs/Longest.antt`.
-- Assumes nothing.
use Prim.Native.Nat.{ℕ, zero, suc, ◌+◌, ◌-◌, ◌≤◌, ◌<◌}
use mathlib.Core.Bool.{Bool, true, false, ◌&&◌, false≢true}
use mathlib.Core.Path.{◌≡◌, refl, sym, ap, ◌∙◌}
use mathlib.Core.Logic.{◌⊎◌, inl, inr}
use mathlib.Core.List.Memᴰ
use mathlib.Core.List.{List, [], ◌∷◌, ◌++◌, append_assoc, Memᴰ}
use native.Mathlib.Omega.{arith}
use lib.ListN.{length, take, drop, length-append, length-drop, take-append-drop}
use lib.Seq.{take-add, take-length, length-take-le, drop-append_seam}
use lib.Dec.{leb}
use borrow.Author.Tests.{leb-true, le-leb, lt-leb, le-ltb, ltb-false}
use Rattle.wire.specs.Outcome.{refuse}
use Rattle.wire.proofs.Outcome.{clear}
use Rattle.utf8.specs.Utf8.{Range, forms, Of, Character, Utf8}
use Rattle.utf8.specs.Text.{starts, character_of, characters_of, well_formed, text_at}
use Rattle.utf8.specs.Longest.{Longest, TextIsUtf8}

-- ---- the bytes of one form

three : (a b c : Bool) → (a && b && c) ≡ true → (a ≡ true) × (b ≡ true) × (c ≡ true)
three true true true e = (refl, refl, refl)
three true true false e = absurd (false≢true e)
three true false c e = absurd (false≢true e)
three false b c e = absurd (false≢true e)

starts_of : {form : List Range} {xs : List ℕ} → Of form xs → (rest : List ℕ) → starts form (xs ++ rest) ≡ true
unfolding starts
starts_of Of.none rest = refl
starts_of (Of.more l h o) rest = rw (le-leb _ _ l, le-leb _ _ h, starts_of o rest)

of_starts : (form : List Range) (xs : List ℕ) → starts form xs ≡ true → Of form (take (length form) xs) × (length form ≤ length xs)
unfolding starts
of_starts [] xs e = (Of.none, omega arith)
of_starts (r ∷ rs) [] e = absurd (false≢true e)
of_starts (r ∷ rs) (x ∷ xs) e =
    let t = three _ _ _ e in
    let o = of_starts rs xs t.2 in
    (Of.more (leb-true _ _ t.0) (leb-true _ _ t.1) o.0, omega (arith, o.1))

of_length : {form : List Range} {xs : List ℕ} → Of form xs → length xs ≡ length form
of_length Of.none = refl
of_length (Of.more l h o) = ap suc (of_length o)

-- ---- forms whose first ranges ascend, from b on: the first byte settles the form

unfoldable ascend : ℕ → List (List Range) → Bool
ascend b [] = true
ascend b ([] ∷ fs) = false
ascend b ((r ∷ rs) ∷ fs) = leb b r.low && leb r.low r.high && ascend (suc r.high) fs

forms_ascend : ascend 0 forms ≡ true
unfolding forms ascend
forms_ascend = refl

first : (b : ℕ) (fs : List (List Range)) (form : List Range) (xs : List ℕ) → ascend b fs ≡ true → Memᴰ form fs → Of form xs
    → (x : ℕ) × (ys : List ℕ) × (xs ≡ x ∷ ys) × (b ≤ x)
unfolding ascend
first b [] form xs e m o = absurd (Memᴰ.not-nil m)
first b ([] ∷ fs) form xs e m o = absurd (false≢true e)
first b ((r ∷ rs) ∷ fs) form xs e m o = go (λ u l. first (suc r.high) fs form xs u l o) (Memᴰ.cases_cons m)
  where
    t : (leb b r.low ≡ true) × (leb r.low r.high ≡ true) × (ascend (suc r.high) fs ≡ true)
    t = three _ _ _ e

    here : {zs : List ℕ} → Of (r ∷ rs) zs → (x : ℕ) × (ys : List ℕ) × (zs ≡ x ∷ ys) × (b ≤ x)
    here (Of.more {x = x} {xs = ys} l h o) = (x, ys, refl, omega (arith, leb-true b r.low t.0, l))

    go : (ascend (suc r.high) fs ≡ true → Memᴰ form fs → (x : ℕ) × (ys : List ℕ) × (xs ≡ x ∷ ys) × (suc r.high ≤ x))
        → (form ≡ r ∷ rs) ⊎ Memᴰ form fs → (x : ℕ) × (ys : List ℕ) × (xs ≡ x ∷ ys) × (b ≤ x)
    go above (inl same) = here (rw same at o)
    go above (inr later) = let f = above t.2 later in (f.0, f.1, f.2, omega (arith, f.3, leb-true b r.low t.0, leb-true r.low r.high t.1))

-- a byte past a form's first range begins nothing of that form
pub past : (r : Range) (rs : List Range) (x : ℕ) (xs : List ℕ) → r.high < x → starts (r ∷ rs) (x ∷ xs) ≡ false
unfolding starts
past r rs x xs h = rw (lt-leb _ _ h) (go (leb r.low x) (starts rs xs))
  where
    go : (a c : Bool) → (a && false && c) ≡ false
    go true c = refl
    go false c = refl

-- ---- one character

pub found : (form : List Range) (rest : List (List Range)) (xs : List ℕ) (t : Bool) → starts form xs ≡ t
    → character_of (form ∷ rest) xs ≡ elim t [ true ↦ length form | false ↦ character_of rest xs ]
unfolding character_of
found form rest xs t e = rw (e, character_of)

character_of_lem : (b : ℕ) (fs : List (List Range)) (form : List Range) (xs rest : List ℕ) → ascend b fs ≡ true → Memᴰ form fs → Of form xs
    → character_of fs (xs ++ rest) ≡ length xs
unfolding ascend
character_of_lem b [] form xs rest e m o = absurd (Memᴰ.not-nil m)
character_of_lem b ([] ∷ fs) form xs rest e m o = absurd (false≢true e)
character_of_lem b ((r ∷ rs) ∷ fs) form xs rest e m o = go (λ u l. character_of_lem (suc r.high) fs form xs rest u l o) (Memᴰ.cases_cons m)
  where
    t : (leb b r.low ≡ true) × (leb r.low r.high ≡ true) × (ascend (suc r.high) fs ≡ true)
    t = three _ _ _ e

    go : (ascend (suc r.high) fs ≡ true → Memᴰ form fs → character_of fs (xs ++ rest) ≡ length xs)
        → (form ≡ r ∷ rs) ⊎ Memᴰ form fs → character_of ((r ∷ rs) ∷ fs) (xs ++ rest) ≡ length xs
    go above (inl same) = let o' : Of (r ∷ rs) xs = rw same at o in found (r ∷ rs) fs (xs ++ rest) true (starts_of o' rest) ∙ sym (of_length o')
    go above (inr later) =
        let f = first (suc r.high) fs form xs t.2 later o in
        let misses : starts (r ∷ rs) (xs ++ rest) ≡ false = rw f.2 (past r rs f.0 (f.1 ++ rest) f.3) in
        found (r ∷ rs) fs (xs ++ rest) false misses ∙ above t.2 later

pub of_character : (fs : List (List Range)) (xs : List ℕ) (n : ℕ) → character_of fs xs ≡ suc n
    → (form : List Range) × Memᴰ form fs × Of form (take (suc n) xs) × (suc n ≤ length xs)
unfolding character_of
of_character [] xs n e = let z : ◌≡◌ {A = ℕ} 0 (suc n) = e in absurd (omega (arith, z))
of_character (f ∷ fs) xs n e = go (λ u. of_character fs xs n u) (starts f xs) refl
  where
    go : (character_of fs xs ≡ suc n → (form : List Range) × Memᴰ form fs × Of form (take (suc n) xs) × (suc n ≤ length xs))
        → (t : Bool) → starts f xs ≡ t → (form : List Range) × Memᴰ form (f ∷ fs) × Of form (take (suc n) xs) × (suc n ≤ length xs)
    go below true s =
        let size : length f ≡ suc n = sym (found f fs xs true s) ∙ e in
        let o = of_starts f xs s in
        (f, Memᴰ.head refl, rw size at o.0, rw size at o.1)
    go below false s =
        let b = below (sym (found f fs xs false s) ∙ e) in
        (b.0, Memᴰ.tail b.1, b.2, b.3)

-- ---- texts

pub turn : (most : ℕ) (xs : List ℕ) (n : ℕ) → character_of forms xs ≡ n
    → characters_of (suc most) xs ≡ elim n [ zero ↦ 0 | suc k ↦ suc k + characters_of most (drop (suc k) xs) ]
unfolding characters_of
turn most xs n e = rw (e, characters_of)

pub beginning : (most : ℕ) (xs : List ℕ) → Utf8 (take (characters_of most xs) xs) × (characters_of most xs ≤ length xs)
beginning zero xs = unfold characters_of in (Utf8.none, omega arith)
beginning (suc most) xs = go (λ ys. beginning most ys) (character_of forms xs) refl
  where
    go : ((ys : List ℕ) → Utf8 (take (characters_of most ys) ys) × (characters_of most ys ≤ length ys)) → (n : ℕ) → character_of forms xs ≡ n
        → Utf8 (take (characters_of (suc most) xs) xs) × (characters_of (suc most) xs ≤ length xs)
    go below zero e = rw (turn most xs 0 e) (Utf8.none, omega arith)
    go below (suc n) e =
        let o = of_character forms xs n e in
        let d = below (drop (suc n) xs) in
        let k : ℕ = characters_of most (drop (suc n) xs) in
        let within : k ≤ length xs - suc n = rw (length-drop (suc n) xs) at d.1 in
        rw (turn most xs (suc n) e) (rw (take-add (suc n) k xs) (Utf8.more (Character.character o.1 o.2) d.0), omega (arith, within, o.3))

pub longest : {ys : List ℕ} → Utf8 ys → (rest : List ℕ) (most : ℕ) → length (ys ++ rest) ≤ most → length ys ≤ characters_of most (ys ++ rest)
longest Utf8.none rest most h = omega arith
longest (Utf8.more {xs = c} {ys = ys} (Character.character {form} m o) u) rest most h = go (λ k l. longest u rest k l) (first 0 forms form c forms_ascend m o) most h
  where
    go : ((k : ℕ) → length (ys ++ rest) ≤ k → length ys ≤ characters_of k (ys ++ rest)) → (x : ℕ) × (zs : List ℕ) × (c ≡ x ∷ zs) × (0 ≤ x)
        → (most : ℕ) → length (c ++ ys ++ rest) ≤ most → length (c ++ ys) ≤ characters_of most (c ++ ys ++ rest)
    go below (x, zs, e, _) zero h = let z : length c ≡ suc (length zs) = ap length e in absurd (omega (arith, z, (rw (length-append, length-append) at h)))
    go below (x, zs, e, _) (suc most) h =
        let n : length c ≡ suc (length zs) = ap length e in
        let l : length c + length ys + length rest ≤ suc most = rw (length-append (c ++ ys) rest, length-append c ys) at h in
        let one : character_of forms (c ++ (ys ++ rest)) ≡ suc (length zs) = character_of_lem 0 forms form c (ys ++ rest) forms_ascend m o ∙ n in
        let left : drop (suc (length zs)) (c ++ (ys ++ rest)) ≡ ys ++ rest = rw (← n) (drop-append_seam c (ys ++ rest)) in
        let b = below most (rw (length-append ys rest) (omega (arith, n, l))) in
        rw (append_assoc c ys rest, turn most (c ++ (ys ++ rest)) (suc (length zs)) one, left, length-append c ys) (omega (arith, n, b))

-- ---- the theorem

pub bounded : (xs : List ℕ) → Longest xs (well_formed xs)
unfolding well_formed
bounded xs = record {
  fits = (beginning (length xs) xs).1;
  is = (beginning (length xs) xs).0;
  most = λ m fits u. rw take-append-drop at (rw (length-take-le m xs fits) at (longest u (drop m xs) (length xs) (rw take-append-drop (omega arith))));
}

entire : (xs : List ℕ) → well_formed xs ≡ length xs → Utf8 xs
entire xs e = rw (e, take-length) at (bounded xs).is

of_utf8 : (xs : List ℕ) → Utf8 xs → well_formed xs ≡ length xs
of_utf8 xs u = let b = bounded xs in omega (arith, b.fits, b.most (length xs) (omega arith) (rw take-length u))

pub text_is_utf8 : TextIsUtf8
unfolding text_at refuse
text_is_utf8 = record {
  longest = bounded;
  whole = λ xs. (entire xs, of_utf8 xs);
  accepted = λ at xs. (λ h. entire xs (let b = bounded xs in omega (arith, b.fits, ltb-false (well_formed xs) (length xs) (clear _ _ _ h))), λ u. rw (le-ltb (well_formed xs) (length xs) (omega (arith, of_utf8 xs u))));
}
