-- Laws of the first line, and of reading what stands behind it.
-- Assumes nothing.
use Prim.Native.Nat.{ℕ, ◌≤◌}
use mathlib.Core.Bool.{Bool, true, false, not, ◌&&◌}
use mathlib.Core.Path.{◌≡◌, refl, sym, ap, ◌∙◌}
use mathlib.Core.List.{List, [], ◌∷◌, ◌++◌, Memᴰ}
use native.Mathlib.Omega.{arith}
use lib.ListN.{length, take, drop, length-append, length-drop, take-append-drop}
use lib.Seq.{drop-append_seam}
use lib.Dec.{eqb}
use lib.Pointwise.{pointwise}
use borrow.Author.Tests.{eqb-true}
use Rattle.std.specs.List.{starts_with}
use Rattle.std.proofs.lemmas.Bool.Decides.{nat_tests}
use Rattle.wire.specs.Outcome.{Outcome, ok, refused, ◌>>=◌}
use Rattle.wire.proofs.Outcome.{not_ok, ok_same, passed, pass, go_on, halt}
use Rattle.opmsg.specs.Names.{same_text}
use Rattle.listing_lines.specs.Decimal.{digits, decimal}
use Rattle.listing_lines.specs.Words.{ascii}
use Rattle.listing_lines.specs.Fields.{line}
use Rattle.listing_lines.specs.Lines.{first_line}
use Rattle.listing_stored.specs.Version.{Version, versions}
use Rattle.listing_stored.specs.Stored.{Position, start, version_of, Told, read_listing}
unfoldable pub use Rattle.listing_stored.specs.Inner.{answered}
use Rattle.listing_stored.specs.Inner.{all_lines}
use Rattle.listing_fields.proofs.Fields.{same_text_lem}
use Rattle.listing_stored.proofs.Judged.{run, walk_run}

-- ---- the first line

module _ (s : List ℕ) where
  -- the version that is found is one of them, and s begins with its line
  pub version_found : (vs : List Version) (v : Version) → version_of vs s ≡ ok v
      → Memᴰ v vs × (first_line v.number ++ drop (length (first_line v.number)) s ≡ s)
  unfolding version_of
  version_found [] v h = not_ok h
  version_found (w ∷ vs) v h = go (same_text (take (length (first_line w.number)) s) (first_line w.number)) refl (version_found vs v) h
    where
      go : (b : Bool) → same_text (take (length (first_line w.number)) s) (first_line w.number) ≡ b
          → (version_of vs s ≡ ok v → Memᴰ v vs × (first_line v.number ++ drop (length (first_line v.number)) s ≡ s))
          → ◌≡◌ {A = Outcome Version} (elim b [ true ↦ ok w | false ↦ version_of vs s ]) (ok v)
          → Memᴰ v (w ∷ vs) × (first_line v.number ++ drop (length (first_line v.number)) s ≡ s)
      go true e ih h =
          let same : w ≡ v = ok_same h in
          let t = same_text_lem (take (length (first_line w.number)) s) (first_line w.number) e in
          let whole : first_line w.number ++ drop (length (first_line w.number)) s ≡ s =
          ap (λ (l : List ℕ). l ++ drop (length (first_line w.number)) s) (sym t) ∙ take-append-drop (length (first_line w.number)) s in
          (Memᴰ.head (sym same), rw same at whole)
      go false e ih h = let r = ih h in (Memᴰ.tail r.0, r.1)

  -- a refusal is at line 1
  pub version_refused : (vs : List Version) (number place : ℕ) → version_of vs s ≡ refused number place → (number ≡ 38) × (place ≡ 1)
  unfolding version_of
  version_refused [] number place h = (cc, cc)
  version_refused (w ∷ vs) number place h = go (same_text (take (length (first_line w.number)) s) (first_line w.number)) (version_refused vs number place) h
    where
      go : (b : Bool) → (version_of vs s ≡ refused number place → (number ≡ 38) × (place ≡ 1))
          → ◌≡◌ {A = Outcome Version} (elim b [ true ↦ ok w | false ↦ version_of vs s ]) (refused number place) → (number ≡ 38) × (place ≡ 1)
      go true ih h = not_ok (sym h)
      go false ih h = ih h

-- the versions, one by one
abbrev pub one : Version
one = record { number = 1; longest = 49_152; sequences = 16; elements = 4_096; has_big = false }

abbrev pub two : Version
two = record { number = 2; longest = 65_536; sequences = 16; elements = 262_144; has_big = true }

among : {P : Type 0} {a : Version} {l : List Version} (b c : Version) → Memᴰ a l → l ≡ b ∷ c ∷ [] → (a ≡ b → P) → (a ≡ c → P) → P
among b c (Memᴰ.head e) same f g = f (cc)
among b c (Memᴰ.tail (Memᴰ.head e)) same f g = g (cc)
among b c (Memᴰ.tail (Memᴰ.tail m)) same f g = none m (cc)
  where
    none : {P : Type 0} {a : Version} {l : List Version} → Memᴰ a l → l ≡ [] → P
    none (Memᴰ.head e) h = let z : ◌≡◌ {A = ℕ} 0 1 = cc in absurd (omega arith)
    none (Memᴰ.tail m) h = let z : ◌≡◌ {A = ℕ} 0 1 = cc in absurd (omega arith)

pub either : {P : Type 0} (v : Version) → Memᴰ v versions → (v ≡ one → P) → (v ≡ two → P) → P
either v m f g = among one two m (unfold versions in refl) f g

-- what begins with the line of a version is of that version
first_is : (r : List ℕ) → version_of versions (first_line 1 ++ r) ≡ ok one
unfolding version_of versions first_line line decimal digits same_text
first_is r = refl

second_is : (r : List ℕ) → version_of versions (first_line 2 ++ r) ≡ ok two
unfolding version_of versions first_line line decimal digits same_text
second_is r = refl

pub version_of_lem : (v : Version) (r : List ℕ) → Memᴰ v versions → version_of versions (first_line v.number ++ r) ≡ ok v
version_of_lem v r m = either v m (λ e. rw e (first_is r)) (λ e. rw e (second_is r))

-- the version by the bytes of its line, which the library compares from the other side
same_sides : (xs ys : List ℕ) → pointwise eqb ys xs ≡ same_text xs ys
unfolding same_text
same_sides [] [] = refl
same_sides [] (y ∷ ys) = refl
same_sides (x ∷ xs) [] = refl
same_sides (x ∷ xs) (y ∷ ys) = go (eqb x y) (eqb y x) refl refl (same_sides xs ys)
  where
    go : (a b : Bool) → eqb x y ≡ a → eqb y x ≡ b → pointwise eqb ys xs ≡ same_text xs ys → (b && pointwise eqb ys xs) ≡ elim a [ true ↦ same_text xs ys | false ↦ false ]
    go true true e d ih = ih
    go false false e d ih = refl
    go true false e d ih = absurd (let h = eqb-true x y e in grind (arith, nat_tests))
    go false true e d ih = absurd (let h = eqb-true y x d in grind (arith, nat_tests))

module _ (s : List ℕ) where
  abbrev first : List ℕ
  first = ascii "relay-log\t1\n"

  abbrev second : List ℕ
  second = ascii "relay-log\t2\n"

  begins : {b : Bool} (line : List ℕ) → starts_with eqb s line ≡ b → same_text (take (length line) s) line ≡ b
  begins line e = sym (same_sides (take (length line) s) line) ∙ e

  pub begins_1 : starts_with eqb s first ≡ true → version_of versions s ≡ ok one
  unfolding version_of versions first_line line decimal digits
  begins_1 e = let d = begins first e in rw (version_of, d)

  pub begins_2 : starts_with eqb s first ≡ false → starts_with eqb s second ≡ true → version_of versions s ≡ ok two
  unfolding version_of versions first_line line decimal digits
  begins_2 n e = let m = begins first n in let d = begins second e in rw (version_of, m, version_of, d)

  pub begins_else : starts_with eqb s first ≡ false → starts_with eqb s second ≡ false → version_of versions s ≡ refused 38 1
  unfolding version_of versions first_line line decimal digits
  begins_else n e = let m = begins first n in let d = begins second e in rw (version_of, m, version_of, d)

-- ---- what stands behind it

pub read_run : (s : List ℕ) (v : Version) → version_of versions s ≡ ok v
    → read_listing s ≡ (run v (drop (length (first_line v.number)) s) start >>= answered v)
unfolding read_listing run answered
read_run s v h =
    let r = drop (length (first_line v.number)) s in
    let l : length r ≤ length s = rw length-drop (omega arith) in
    go_on _ h ∙ rw (walk_run v (length s) (length r) 0 0 r start l (omega arith))

pub read_behind : (v : Version) (r : List ℕ) → Memᴰ v versions → read_listing (first_line v.number ++ r) ≡ (run v r start >>= answered v)
read_behind v r m = read_run (first_line v.number ++ r) v (version_of_lem v r m) ∙ rw (drop-append_seam (first_line v.number) r)

pub answered_ok : (v : Version) (p : Position) (t : Told) → answered v p ≡ ok t → (p.ended ≡ true) × (record { version = v.number; messages = p.messages } ≡ t)
unfolding answered
answered_ok v p t h = let a = passed _ _ _ _ h in (ended p.ended a.0, ok_same a.1)
  where
    ended : (b : Bool) → not b ≡ false → b ≡ true
    ended true e = refl
    ended false e = sym e

pub answered_ended : (v : Version) (p : Position) → p.ended ≡ true → answered v p ≡ ok (record { version = v.number; messages = p.messages })
unfolding answered
answered_ended v p e = pass 38 p.line _ (ap not e)

-- ---- as it is read

module _ (s : List ℕ) where
  pub read_none : version_of versions s ≡ refused 38 1 → read_listing s ≡ refused 38 1
  unfolding read_listing
  read_none e = halt _ e

  module _ (v : Version) (e : version_of versions s ≡ ok v) where
    pub first_length : length (first_line v.number) ≡ 12
    unfolding first_line line decimal digits
    first_length = either v (version_found s versions v e).0 (λ d. rw d) (λ d. rw d)

    pub long_enough : 12 ≤ length s
    long_enough =
        let l = first_line v.number in
        let whole : length (l ++ drop (length l) s) ≡ length s = ap length (version_found s versions v e).1 in
        omega (arith, length-append l (drop (length l) s), first_length)

    pub read_lines : read_listing s ≡ all_lines v (drop 12 s)
    read_lines = read_run s v e ∙ rw first_length
