-- The rows of the table that hold no document: what their readings accept is what the grammar says of their types. And how a row is found.
-- Assumes nothing.
use Prim.Native.Nat.{ℕ, suc, ◌+◌, ◌-◌, ◌^◌, ◌≤◌, ◌<◌}
use mathlib.Core.Bool.{Bool, true, false, not, ◌&&◌}
use mathlib.Core.Path.{◌≡◌, refl, sym, ap, ◌∙◌, subst}
use mathlib.Core.Logic.{◌↔◌}
use mathlib.Core.List.Memᴰ
use mathlib.Core.List.{List, [], ◌∷◌, ◌++◌, append_assoc}
use native.Mathlib.Omega.{arith}
use lib.ListN.{length, get_or, take, drop, length-append, length-take, length-drop}
use lib.Seq.{take-add, drop-append_seam, drop-cons}
use lib.Dec.{ltb, eqb}
use borrow.Author.Tests.{ltb-false, leb-false, eqb-true, eqb-false, not-false}
use Rattle.wire.specs.Outcome.{Outcome, ok, refuse, ◌>>=◌}
use Rattle.wire.specs.Bytes.{Bytes, word, le32, until_zero, one_of}
use Rattle.wire.proofs.Outcome.{not_ok, ok_same, bound, passed, pass, check_ltb, check_leb, check_eqb, check_under}
use Rattle.wire.proofs.Bytes.{bytes_drop, word_le32, le32_word, under_false}
use Rattle.utf8.proofs.Checks.{check_text}
use Rattle.bson_values.specs.Value.{sized, boolean, cstring, string, binary, regex, pointer, Rule, Row, rule_in}
use Rattle.bson_grammar.specs.Grammar.{◌∈◌, ZeroEnded, String, Plain}
use Rattle.bson_grammar.proofs.Texts.{parted, joined, zero_ended, until_ended}

-- a reading takes only what is a P
abbrev pub TakesOnly : (List ℕ → Type 0) → (ℕ → List ℕ → Outcome ℕ) → Type 0
TakesOnly P o = (v : ℕ) (xs : List ℕ) (n : ℕ) → Bytes xs → o v xs ≡ ok n → (n ≤ length xs) × P (take n xs)

-- a reading takes xs, whatever follows
abbrev pub Takes : List ℕ → (ℕ → List ℕ → Outcome ℕ) → Type 0
Takes xs o = (v : ℕ) (rest : List ℕ) → o v (xs ++ rest) ≡ ok (length xs)

pub sized_sound : (k : ℕ) → TakesOnly (λ ys. length ys ≡ k) (λ v. sized v k)
unfolding sized
sized_sound k v xs n b e =
    let l = passed _ _ _ _ e in
    let total = ok_same l.1 in
    (omega (arith, ltb-false), simp length-take (omega (arith, ltb-false)))

pub sized_complete : (k : ℕ) (xs : List ℕ) → length xs ≡ k → Takes xs (λ v. sized v k)
unfolding sized
sized_complete k xs h v rest = (check_ltb _ _ _ _ (length (xs ++ rest)) k).1 (simp length-append (omega arith), ap ok (sym h))

pub boolean_sound : {t : ℕ} → t ∈ 0x08 ∷ [] → TakesOnly (Plain t) boolean
unfolding boolean
boolean_sound m v [] n b e = let l = passed _ _ _ _ e in absurd (omega (arith, ltb-false))
boolean_sound m v (x ∷ xs) n b e =
    let l = passed _ _ _ _ e in
    let s = passed _ _ _ _ l.1 in
    let total = ok_same s.1 in
    (omega arith, rw (← total) (Plain.boolean {b = x} m (omega (arith, ltb-false))))

pub boolean_complete : {b : ℕ} → b ≤ 1 → Takes (b ∷ []) boolean
unfolding boolean
boolean_complete {b} h v rest = (check_ltb _ _ _ _ (length (b ∷ rest)) 1).1 (omega arith, (check_ltb _ _ _ _ 1 b).1 (h, refl))

cstring_sound : (at : ℕ) → TakesOnly ZeroEnded (λ v. cstring v at)
unfolding cstring
cstring_sound at v xs n b e =
    let l = passed _ _ _ _ e in
    let u = (check_text _ _ at (take (until_zero xs) xs)).0 l.1 in
    let total = ok_same u.1 in
    let whole : n ≡ suc (until_zero xs) = omega arith in
    (omega (arith, leb-false), rw whole (zero_ended xs (omega (arith, leb-false)) u.0))

cstring_complete : {xs : List ℕ} → ZeroEnded xs → (at : ℕ) → Takes xs (λ v. cstring v at)
unfolding cstring
cstring_complete {xs} p at v rest =
    let u = until_ended rest p in
    (check_leb _ _ _ _ (length (xs ++ rest)) (until_zero (xs ++ rest))).1 (
      simp length-append (omega arith),
      (check_text _ _ at (take (until_zero (xs ++ rest)) (xs ++ rest))).1 (u.1, ap ok (omega arith)),
    )

pub string_sound : (at : ℕ) → TakesOnly String (λ v. string v at)
unfolding string
string_sound at v xs n b e =
    let a = passed _ _ _ _ e in
    let u = passed _ _ _ _ a.1 in
    let s = under_false _ _ u.0 in
    let l = passed _ _ _ _ u.1 in
    let z = passed _ _ _ _ l.1 in
    let t = (check_text _ _ (at + 4) (take (word xs - 1) (drop 4 xs))).0 z.1 in
    let total = ok_same t.1 in
    let whole : n ≡ word xs - 1 + 5 = omega arith in
    let last : 4 + (word xs - 1) ≡ 3 + word xs = omega arith in
    let f = parted 1 xs s.0 (omega (arith, ltb-false)) b (rw last (eqb-true _ _ (not-false _ z.0))) in
    (omega (arith, ltb-false), rw (whole, f.1) (String.string (take (word xs - 1) (drop 4 xs)) (omega arith) t.0))

pub string_complete : {xs : List ℕ} → String xs → (at : ℕ) → Takes xs (λ v. string v at)
unfolding string
string_complete (String.string xs h u) at v rest =
    let w : ℕ = length xs + 1 in
    let whole : List ℕ = le32 w ++ xs ++ 0 ∷ [] ++ rest in
    let f = joined w xs rest (omega arith) in
    let last : 3 + word whole ≡ 4 + length xs = omega arith in
    let size : word whole - 1 ≡ length xs = omega arith in
    (check_ltb _ _ _ _ (length whole) 4).1 (
      omega arith,
      (check_under _ _ _ _ 1 (word whole)).1 (
        omega arith,
        omega arith,
        (check_ltb _ _ _ _ (length whole) (4 + word whole)).1 (
          omega arith,
          (check_eqb _ _ _ _ (get_or whole (3 + word whole) 0) 0).1 (
            rw last f.3,
            (check_text _ _ (at + 4) (take (word whole - 1) (drop 4 whole))).1 (rw (size, f.4) u, ap ok (omega arith)),
          ),
        ),
      ),
    )

-- bytes of subtype 2, of which there are n, begin with the number of those behind it
abbrev Old : (subtype n : ℕ) → List ℕ → Type 0
Old subtype n xs = subtype ≡ 2 → (4 ≤ n) × (word xs ≡ n - 4)

-- what the two checks of subtype 2 ask, where t says whether it is 2
module _ (v : ℕ) (o : Outcome ℕ) (r subtype n : ℕ) (xs : List ℕ) where
  check_old : (t : Bool) → eqb subtype 2 ≡ t
      → ((refuse 19 v (t && ltb n 4) >>= λ _. refuse 19 v (t && not (eqb (word xs) (n - 4))) >>= λ _. o) ≡ ok r) ↔ (Old subtype n xs × (o ≡ ok r))
  check_old true q = (
    λ e. let l = (check_ltb _ _ _ _ n 4).0 e in let i = (check_eqb _ _ _ _ (word xs) (n - 4)).0 l.1 in (λ two. (l.0, i.0), i.1),
    λ p. let f = p.0 (eqb-true subtype 2 q) in (check_ltb _ _ _ _ n 4).1 (f.0, (check_eqb _ _ _ _ (word xs) (n - 4)).1 (f.1, p.1)),
  )
  check_old false q = (
    λ e. (λ two. absurd (eqb-false subtype 2 q two), (passed _ _ _ _ (passed _ _ _ _ e).1).1),
    λ p. pass _ _ _ refl ∙ pass _ _ _ refl ∙ p.1,
  )

-- a binary of either form, put together from its parts
binary_is : {t : ℕ} (subtype n : ℕ) (xs : List ℕ) → t ∈ 0x05 ∷ [] → Bytes xs → n < 2 ^ 31 → n ≤ length xs → Old subtype n xs
    → Plain t (le32 n ++ subtype ∷ take n xs)
binary_is {t} subtype n xs m b small fits old = go (eqb subtype 2) refl
  where
    go : (is : Bool) → eqb subtype 2 ≡ is → Plain t (le32 n ++ subtype ∷ take n xs)
    go true q =
        let two = eqb-true subtype 2 q in
        let f = old two in
        let whole : n ≡ 4 + word xs = omega arith in
        let ys : List ℕ = take (word xs) (drop 4 xs) in
        let long : length ys ≡ word xs = simp (length-take, length-drop) (omega arith) in
        rw (two, whole, take-add 4 (word xs) xs, ← le32_word xs b (omega arith)) (rw long at (Plain.old_binary ys m (omega arith)))
    go false q =
        let long : length (take n xs) ≡ n = simp length-take (omega arith) in
        rw long at (Plain.binary subtype (take n xs) m (eqb-false subtype 2 q) (omega arith))

pub binary_sound : {t : ℕ} → t ∈ 0x05 ∷ [] → TakesOnly (Plain t) binary
unfolding binary
binary_sound m v xs n b e =
    let a = passed _ _ _ _ e in
    let u = passed _ _ _ _ a.1 in
    let s = under_false _ _ u.0 in
    let l = passed _ _ _ _ u.1 in
    let o = (check_old v _ n (get_or xs 4 0) (word xs) (drop 5 xs) _ refl).0 l.1 in
    let total = ok_same o.1 in
    let whole : n ≡ 4 + suc (word xs) = omega arith in
    let fits : 5 + word xs ≤ length xs = omega (arith, ltb-false) in
    let is = binary_is (get_or xs 4 0) (word xs) (drop 5 xs) m (bytes_drop 5 xs b) s.1 (simp length-drop (omega arith)) o.0 in
    (omega arith, rw (whole, take-add 4 (suc (word xs)) xs, ← le32_word xs b (omega arith), drop-cons xs 4 0 (omega arith)) is)

-- and read, whatever follows
binary_takes : (subtype n : ℕ) (xs : List ℕ) → length xs ≡ n → n < 2 ^ 31 → ((rest : List ℕ) → Old subtype n (xs ++ rest))
    → Takes (le32 n ++ subtype ∷ xs) binary
unfolding binary le32
binary_takes subtype n xs size h old v rest =
    let whole : List ℕ = le32 n ++ subtype ∷ xs ++ rest in
    let read : word whole ≡ n = word_le32 n (subtype ∷ xs ++ rest) (omega arith) in
    let long : length whole ≡ 5 + length xs + length rest = simp length-append (omega arith) in
    (check_ltb _ _ _ _ (length whole) 4).1 (
      omega arith,
      (check_under _ _ _ _ 0 (word whole)).1 (
        omega arith,
        omega arith,
        (check_ltb _ _ _ _ (length whole) (5 + word whole)).1 (
          omega arith,
          (check_old v _ _ subtype (word whole) (xs ++ rest) _ refl).1 (rw read (old rest), ap ok (omega arith)),
        ),
      ),
    )

pub binary_complete : (subtype : ℕ) (xs : List ℕ) → ¬ (subtype ≡ 2) → length xs < 2 ^ 31 → Takes (le32 (length xs) ++ subtype ∷ xs) binary
binary_complete subtype xs other h = binary_takes subtype (length xs) xs refl h (λ rest two. absurd (other two))

pub old_binary_complete : (xs : List ℕ) → 4 + length xs < 2 ^ 31 → Takes (le32 (4 + length xs) ++ 2 ∷ (le32 (length xs) ++ xs)) binary
unfolding le32
old_binary_complete xs h =
    let left : 4 + length xs - 4 ≡ length xs = omega arith in
    binary_takes 2 (4 + length xs) (le32 (length xs) ++ xs) (omega arith) h
    (λ rest two. (omega arith, rw left (word_le32 (length xs) (xs ++ rest) (omega arith))))

pub regex_sound : {t : ℕ} → t ∈ 0x0B ∷ [] → TakesOnly (Plain t) regex
unfolding regex
regex_sound m v xs n b e =
    bound _ _ e λ i ei fi.
    bound _ _ fi λ j ej fj.
    let p = cstring_sound v v xs i b ei in
    let q = cstring_sound (v + i) v (drop i xs) j (bytes_drop i xs b) ej in
    let total = ok_same fj in
    let long = length-drop i xs in
    (omega arith, rw (← total, take-add) (Plain.regex m p.1 q.1))

pub regex_complete : {xs ys : List ℕ} → ZeroEnded xs → ZeroEnded ys → Takes (xs ++ ys) regex
unfolding regex ◌>>=◌
regex_complete {xs} {ys} p q v rest =
    rw (append_assoc, cstring_complete p v v (ys ++ rest), drop-append_seam xs (ys ++ rest), cstring_complete q (v + length xs) v rest, length-append)

pub pointer_sound : {t : ℕ} → t ∈ 0x0C ∷ [] → TakesOnly (Plain t) pointer
unfolding pointer
pointer_sound m v xs n b e =
    bound _ _ e λ i ei fi.
    bound _ _ fi λ j ej fj.
    let p = string_sound v v xs i b ei in
    let q = sized_sound 12 v (drop i xs) j (bytes_drop i xs b) ej in
    let total = ok_same fj in
    let long = length-drop i xs in
    (omega arith, rw (← total, take-add) (Plain.pointer _ m p.1 q.1))

pub pointer_complete : {xs : List ℕ} (ys : List ℕ) → String xs → length ys ≡ 12 → Takes (xs ++ ys) pointer
unfolding pointer ◌>>=◌
pointer_complete {xs} ys p q v rest =
    rw (append_assoc, string_complete p v v (ys ++ rest), drop-append_seam xs (ys ++ rest), sized_complete 12 ys q v rest, length-append)

-- ---- the table

-- P holds of each
infixr 30 ◌&◌
pub data Each {A : Type 0} (P : A → Type 0) : List A → Type 0 where
  done : Each P []
  ◌&◌ : {x : A} {xs : List A} → P x → Each P xs → Each P (x ∷ xs)

pub each : {P : ℕ → Type 0} {x : ℕ} {xs : List ℕ} → x ∈ xs → Each P xs → P x
each {P} (Memᴰ.head e) (p & ps) = subst P (sym e) p
each (Memᴰ.tail m) (p & ps) = each m ps

among : (ys : List ℕ) (x : ℕ) → one_of ys x ≡ true → x ∈ ys
unfolding one_of
among [] x e = cc
among (y ∷ ys) x e = go (eqb x y) refl (among ys x)
  where
    go : (t : Bool) → eqb x y ≡ t → (one_of ys x ≡ true → x ∈ ys) → x ∈ y ∷ ys
    go true q below = Memᴰ.head (eqb-true x y q)
    go false q below = Memᴰ.tail (below (rw (q, one_of) at e))

-- what holds of each row's rule, for each of its types, holds of the rule that is found for a type
pub found : (P : Rule → Type 0) (at t : ℕ) (rule : Rule) (rows : List Row) → Each (λ r. t ∈ r.types → P r.rule) rows → rule_in rows at t ≡ ok rule → P rule
unfolding rule_in
found P at t rule [] done e = not_ok e
found P at t rule (r ∷ rows) (p & ps) e = go (one_of r.types t) refl (found P at t rule rows ps)
  where
    go : (b : Bool) → one_of r.types t ≡ b → (rule_in rows at t ≡ ok rule → P rule) → P rule
    go true q below = subst P (ok_same (rw (q, rule_in) at e)) (p (among r.types t q))
    go false q below = below (rw (q, rule_in) at e)
