-- Laws of a walk: one turn, its end, that more turns than bytes change nothing, what each step keeps, and walks one behind the other.
-- Assumes nothing.
use Prim.Native.Nat.{ℕ, zero, suc, ◌+◌, ◌-◌, ◌≤◌, ◌<◌}
use mathlib.Core.Path.{◌≡◌, refl, sym, ap, ◌∙◌}
use mathlib.Core.List.{List, [], ◌∷◌, ◌++◌}
use native.Mathlib.Omega.{arith}
use native.Mathlib.Nat.{add-zero}
use native.Mathlib.Numerals.{sub-one}
use lib.ListN.{length, take, drop, length-take, length-drop, drop_of_length-le}
use lib.Seq.{drop-append-le, length-take-le}
use borrow.Author.Tests.{eq-eqb, ne_eqb}
use Rattle.wire.specs.Outcome.{ok, refused, ◌>>=◌}
use Rattle.wire.specs.Walk.{Step, step, Reader, walk}
use Rattle.wire.proofs.Outcome.{ok_same, bound, same_after, go_on, halt}
use Rattle.wire.proofs.Parts.{next_part}
use Rattle.wire.proofs.Agree.{Agree, agree_append, agree_take}

-- the size and the state of a step
pub step_size : {S : Type 0} {n : ℕ} {s : S} {one : Step S} → step n s ≡ ok one → one.size ≡ n
step_size {S} h = sym (ap (λ (x : Step S). x.size) (ok_same h))

pub step_state : {S : Type 0} {n : ℕ} {s : S} {one : Step S} → step n s ≡ ok one → one.state ≡ s
step_state {S} h = sym (ap (λ (x : Step S). x.state) (ok_same h))

module _ {S : Type 0} (reader : Reader S) where
  -- at the end there is nothing to read
  pub walk_done : (turns at : ℕ) (s : S) → walk reader turns at [] s ≡ ok s
  unfolding walk
  walk_done zero at s = refl
  walk_done (suc turns) at s = refl

  -- before it one thing is read, and then the rest
  pub walk_step : (turns at : ℕ) (xs : List ℕ) (s : S) → 0 < length xs
      → walk reader (suc turns) at xs s ≡ (reader at xs s >>= λ one. walk reader turns (at + one.size) (drop one.size xs) one.state)
  unfolding walk
  walk_step turns at xs s l = rw (walk, ne_eqb (length xs) 0 (λ e. omega arith))

  -- a reader whose every step takes a byte or more
  abbrev pub Advances : Type 0
  Advances = (at : ℕ) (xs : List ℕ) (s : S) (one : Step S) → reader at xs s ≡ ok one → 0 < one.size

  -- more turns than bytes change nothing
  pub walk_turns : Advances → (m n at : ℕ) (xs : List ℕ) (s : S) → length xs ≤ m → length xs ≤ n → walk reader m at xs s ≡ walk reader n at xs s
  walk_turns a zero n at [] s k l = walk_done zero at s ∙ sym (walk_done n at s)
  walk_turns a zero n at (x ∷ xs) s k l = absurd (omega arith)
  walk_turns a (suc m) n at [] s k l = walk_done (suc m) at s ∙ sym (walk_done n at s)
  walk_turns a (suc m) zero at (x ∷ xs) s k l = absurd (omega arith)
  walk_turns a (suc m) (suc n) at (x ∷ xs) s k l =
      walk_step m at (x ∷ xs) s (omega arith)
      ∙ same_after (reader at (x ∷ xs) s) _ _ (λ one e.
      let some = a at (x ∷ xs) s one e in
      walk_turns a m n (at + one.size) (drop one.size (x ∷ xs)) one.state (rw length-drop (omega arith)) (rw length-drop (omega arith)))
      ∙ sym (walk_step n at (x ∷ xs) s (omega arith))

  -- in code: from place i of xs to `end`. At the end there is nothing to read; before it the walk goes on behind the next thing, or stops in it
  module _ (at end i : ℕ) (xs : List ℕ) (s : S) where
    pub ends : (turns : ℕ) → end ≤ i → walk reader turns (at + i) (take (end - i) (drop i xs)) s ≡ ok s
    unfolding walk
    ends zero h = refl
    ends (suc turns) h =
        let none : length (take (end - i) (drop i xs)) ≡ 0 = simp length-take (omega arith) in
        rw (walk, eq-eqb _ _ none)

    module _ (more : i < end) (within : end ≤ length xs) where
      some : 0 < length (take (end - i) (drop i xs))
      some = simp (length-take, length-drop) (omega arith)

      pub goes_on : (turns : ℕ) → end - i ≤ turns → (size : ℕ) (t : S) → reader (at + i) (take (end - i) (drop i xs)) s ≡ step size t
          → walk reader turns (at + i) (take (end - i) (drop i xs)) s ≡ walk reader (turns - 1) (at + (i + size)) (take (end - (i + size)) (drop (i + size) xs)) t
      goes_on zero l size t e = absurd (omega arith)
      goes_on (suc turns) l size t e =
          let place : at + i + size ≡ at + (i + size) = omega arith in
          walk_step turns (at + i) _ s some ∙ go_on _ e ∙ rw (sub-one (suc turns), next_part i size end xs, place)

      pub stops : (turns : ℕ) → end - i ≤ turns → {number place : ℕ} → reader (at + i) (take (end - i) (drop i xs)) s ≡ refused number place
          → walk reader turns (at + i) (take (end - i) (drop i xs)) s ≡ refused number place
      stops zero l e = absurd (omega arith)
      stops (suc turns) l e = walk_step turns (at + i) _ s some ∙ halt _ e

-- a reader whose every step takes a byte or more of those that it is given, and goes by no others
pub record Steady {S : Type 0} (reader : Reader S) : Type 0 where
  pub advances : Advances reader
  pub fits : (at : ℕ) (xs : List ℕ) (s : S) (one : Step S) → reader at xs s ≡ ok one → one.size ≤ length xs
  pub alike : (at : ℕ) (xs ys : List ℕ) (s : S) (one : Step S) → reader at xs s ≡ ok one → Agree one.size xs ys → reader at ys s ≡ ok one

module _ {S : Type 0} (reader : Reader S) (steady : Steady reader) where
  -- one thing by itself
  pub walk_one : (turns at : ℕ) (xs : List ℕ) (s : S) (one : Step S) → one.size ≤ turns → reader at xs s ≡ ok one → walk reader turns at (take one.size xs) s ≡ ok one.state
  walk_one zero at xs s one l h = absurd (omega (arith, steady.advances at xs s one h))
  walk_one (suc turns) at xs s one l h =
      let some = steady.advances at xs s one h in
      let fits = steady.fits at xs s one h in
      let size = length-take-le one.size xs fits in
      walk_step reader turns at _ s (omega arith) ∙ go_on _ (steady.alike at xs _ s one h (agree_take fits))
      ∙ rw (drop_of_length-le (take one.size xs) {i = one.size} (omega arith)) (walk_done reader turns _ one.state)

  -- a walk goes on behind another
  walk_start : (m n l at : ℕ) (ys : List ℕ) (s : S) {t : S} → length ys ≤ n → length ys ≤ l → walk reader m at [] s ≡ ok t
      → walk reader l at ys s ≡ walk reader n (at + 0) ys t
  walk_start m n l at ys s {t} j k h =
      let same : s ≡ t = ok_same (sym (walk_done reader m at s) ∙ h) in
      rw (add-zero, ← same) (walk_turns reader steady.advances l n at ys s k j)

  pub walk_append : (m n l at : ℕ) (xs ys : List ℕ) (s : S) {t : S} → length xs ≤ m → length ys ≤ n → length xs + length ys ≤ l → walk reader m at xs s ≡ ok t
      → walk reader l at (xs ++ ys) s ≡ walk reader n (at + length xs) ys t
  walk_append zero n l at [] ys s i j k h = walk_start zero n l at ys s j (omega arith) h
  walk_append zero n l at (x ∷ xs) ys s i j k h = absurd (omega arith)
  walk_append (suc m) n l at [] ys s i j k h = walk_start (suc m) n l at ys s j (omega arith) h
  walk_append (suc m) n zero at (x ∷ xs) ys s i j k h = absurd (omega arith)
  walk_append (suc m) n (suc l) at (x ∷ xs) ys s {t} i j k h =
      bound (reader at (x ∷ xs) s) _ (sym (walk_step reader m at (x ∷ xs) s (omega arith)) ∙ h) λ one e rest.
      let some = steady.advances at (x ∷ xs) s one e in
      let fits = steady.fits at (x ∷ xs) s one e in
      let left = length-drop one.size (x ∷ xs) in
      let place : at + one.size + length (drop one.size (x ∷ xs)) ≡ at + suc (length xs) = omega arith in
      walk_step reader l at (x ∷ xs ++ ys) s (omega arith) ∙ go_on _ (steady.alike at (x ∷ xs) (x ∷ xs ++ ys) s one e (agree_append ys fits))
      ∙ rw (drop-append-le one.size (x ∷ xs) ys fits, ← place) (walk_append m n l (at + one.size) (drop one.size (x ∷ xs)) ys one.state (omega arith) j (omega arith) rest)
