-- Laws of a listing that comes in pieces: what is told of it whatever comes behind the bytes at hand.
-- Assumes nothing.
use Prim.Native.Nat.{ℕ, suc, ◌+◌, ◌≤◌, ◌<◌}
use mathlib.Core.Bool.{Bool, true, false}
use mathlib.Core.Path.{◌≡◌, refl, sym, ap, ◌∙◌}
use mathlib.Core.List.{List, [], ◌∷◌, ◌++◌, append_assoc}
use native.Mathlib.Omega.{arith}
use native.Mathlib.Numerals.{add-one}
use lib.ListN.{length, take, drop}
use lib.Seq.{take-append-le}
use lib.Dec.{eqb}
use borrow.Author.Tests.{ltb-true, ltb-false}
use Rattle.std.proofs.Common.{Option, Some, None, Result, Ok, Err, cond, ltb}
use Rattle.std.specs.List.{starts_with, position_or_len}
use Rattle.std.specs.Option.{MatchOption}
use Rattle.std.specs.Result.{IsErrAnd}
use Rattle.listing_fields.proofs.Splitting.{until_newline_lem}
use Rattle.listing_stored.specs.declared.WrongLine.{WrongLine}
use Rattle.wire.specs.Outcome.{Outcome, ok, refused, ◌>>=◌}
use Rattle.wire.proofs.Outcome.{go_on, halt}
use Rattle.listing_lines.specs.Words.{ascii}
use Rattle.listing_lines.specs.Fields.{newline}
use Rattle.listing_lines.specs.Lines.{first_line}
use Rattle.listing_fields.specs.Numbers.{until_newline}
use Rattle.listing_fields.proofs.Fields.{until_line, until_split}
use Rattle.listing_stored.specs.Version.{Version, versions}
use Rattle.listing_stored.specs.Stored.{Position, start, version_of, read_listing}
use Rattle.listing_stored.specs.Inner.{judged, run, answered}
use Rattle.listing_stored.proofs.Judged.{run_empty, run_rest, run_line}
use Rattle.listing_stored.proofs.Versions.{version_found, version_refused, begins_1, begins_2, begins_else, read_behind, read_none, first_length, long_enough}

-- a refusal that is passed on
pub refusal_is : {A : Type 0} {w : WrongLine} (e : WrongLine) (r : Result A WrongLine) → IsErrAnd r (λ d. d ≡ w) → w ≡ e → r ≡ Err e
refusal_is e (Ok a) is same = absurd is
refusal_is e (Err d) is same = cc

-- the first newline, as the library finds it
pub newline_found : (s : List ℕ) (r : Option ℕ) → r ≡ cond (ltb (position_or_len (λ x. eqb x newline) s) (length s)) (Some (position_or_len (λ x. eqb x newline) s)) None
    → MatchOption r (length s ≤ until_newline s) (λ n. (n ≡ until_newline s) × (n < length s))
newline_found s r e = rw (e, until_newline_lem s) (go (ltb (until_newline s) (length s)) refl)
  where
    go : (b : Bool) → ltb (until_newline s) (length s) ≡ b
        → MatchOption (cond b (Some (until_newline s)) None) (length s ≤ until_newline s) (λ n. (n ≡ until_newline s) × (n < length s))
    go true t = (refl, ltb-true _ _ t)
    go false t = ltb-false _ _ t

-- ---- the first line

pub first_on : (s later : List ℕ) (v : Version) → version_of versions s ≡ ok v → read_listing (s ++ later) ≡ (run v (drop 12 s ++ later) start >>= answered v)
first_on s later v e =
    let f = version_found s versions v e in
    let l = first_line v.number in
    let twelve = first_length s v e in
    let whole : s ++ later ≡ l ++ (drop 12 s ++ later) = ap (λ (xs : List ℕ). xs ++ later) (sym f.1) ∙ append_assoc l (drop (length l) s) later ∙ rw twelve in
    ap read_listing whole ∙ read_behind v (drop 12 s ++ later) f.0

-- twelve bytes tell the version
version_front : (s later : List ℕ) → 12 ≤ length s → version_of versions (s ++ later) ≡ version_of versions s
version_front s later h = go (starts_with eqb s first) refl (starts_with eqb s second) refl
  where
    first : List ℕ
    first = ascii "relay-log\t1\n"

    second : List ℕ
    second = ascii "relay-log\t2\n"

    same : take 12 (s ++ later) ≡ take 12 s
    same = take-append-le 12 s later h

    go : (a : Bool) → starts_with eqb s first ≡ a → (b : Bool) → starts_with eqb s second ≡ b → version_of versions (s ++ later) ≡ version_of versions s
    go true d b e = begins_1 (s ++ later) (rw same d) ∙ sym (begins_1 s d)
    go false d true e = begins_2 (s ++ later) (rw same d) (rw same e) ∙ sym (begins_2 s d e)
    go false d false e = begins_else (s ++ later) (rw same d) (rw same e) ∙ sym (begins_else s d e)

pub first_none : (s later : List ℕ) → 12 ≤ length s → version_of versions s ≡ refused 38 1 → read_listing (s ++ later) ≡ refused 38 1
first_none s later h e = read_none (s ++ later) (version_front s later h ∙ e)

pub first_short : (s : List ℕ) → length s < 12 → read_listing s ≡ refused 38 1
first_short s h = go (version_of versions s) refl
  where
    go : (o : Outcome Version) → version_of versions s ≡ o → read_listing s ≡ refused 38 1
    go (ok v) e = absurd (omega (arith, long_enough s v e))
    go (refused number place) e = let f = version_refused s versions number place e in read_none s (rw (f.0, f.1) at e)

-- ---- a line behind it

module _ (v : Version) (s later : List ℕ) (p : Position) (n : ℕ) (is : n ≡ until_newline s) (h : n < length s) where
  parted : run v (s ++ later) p ≡ (judged v p (take n s) >>= run v (drop (n + 1) s ++ later))
  parted =
      let l = take (until_newline s) s in
      let ys = drop (suc (until_newline s)) s in
      let whole : s ++ later ≡ l ++ newline ∷ (ys ++ later) = ap (λ (xs : List ℕ). xs ++ later) (until_split s (omega (arith, is))) ∙ append_assoc l (newline ∷ ys) later in
      rw (is, add-one (until_newline s)) (ap (λ (xs : List ℕ). run v xs p) whole ∙ run_line v l (ys ++ later) p (until_line s))

  pub line_on : (q : Position) → judged v p (take n s) ≡ ok q → (run v (s ++ later) p >>= answered v) ≡ (run v (drop (n + 1) s ++ later) q >>= answered v)
  line_on q e = ap (λ (o : Outcome Position). o >>= answered v) (parted ∙ go_on _ e)

  pub line_wrong : (k : ℕ) → judged v p (take n s) ≡ refused 38 k → (run v (s ++ later) p >>= answered v) ≡ refused 38 k
  line_wrong k e = halt _ (parted ∙ halt _ e)

-- ---- bytes without a newline, at the end

module _ (v : Version) where
  pub rest_none : (s : List ℕ) (p : Position) → length s ≡ 0 → (run v s p >>= answered v) ≡ answered v p
  rest_none [] p h = go_on _ (run_empty v p)
  rest_none (x ∷ s) p h = absurd (omega arith)

  pub rest_some : (s : List ℕ) (p : Position) → ¬ (length s ≡ 0) → length s ≤ until_newline s → (run v s p >>= answered v) ≡ refused 38 p.line
  rest_some [] p h l = absurd (h refl)
  rest_some (x ∷ s) p h l = halt _ (run_rest v x s p l)
