-- What the answer of `map_err` tells of what it was called on: an `Ok` is as it was, and behind an `Err` there is one.
-- Assumes nothing.
use mathlib.Core.Path.{◌≡◌, refl}
use Rattle.std.specs.Prelude.{Result, Ok, Err}
use Rattle.std.specs.Result.{MatchResult, IsErrAnd}

-- as `map_err` says of each case
abbrev pub Mapped : {A E F : Type 0} (z : Result A E) (q : Result A F) → (E → F → Type 0) → Type 0
Mapped z q P = MatchResult z (λ x. q ≡ Ok x) (λ e. IsErrAnd q (P e))

module _ {A E F : Type 0} (P : E → F → Type 0) (z : Result A E) (q : Result A F) (h : Mapped z q P) where
  pub same_ok : (x : A) → q ≡ Ok x → z ≡ Ok x
  same_ok x i = go z q h i
    where
      go : (z : Result A E) (q : Result A F) → Mapped z q P → q ≡ Ok x → z ≡ Ok x
      go (Ok y) q h i = cc
      go (Err e) (Ok y) h i = absurd h
      go (Err e) (Err f) h i = cc

  pub err_behind : (f : F) → q ≡ Err f → (e : E) × (z ≡ Err e) × P e f
  err_behind f i = go z q h i
    where
      go : (z : Result A E) (q : Result A F) → Mapped z q P → q ≡ Err f → (e : E) × (z ≡ Err e) × P e f
      go (Ok y) q h i = cc
      go (Err e) (Ok y) h i = absurd h
      go (Err e) (Err g) h i = let same : g ≡ f = cc in (e, refl, rw same at h)
