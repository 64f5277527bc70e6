-- A sequence by what is found of its identifier, in the part `&xs[5..1 + size]`.
-- Assumes nothing.
use Prim.Native.Nat.{ℕ, ◌+◌, ◌-◌, ◌≤◌}
use mathlib.Core.Path.{◌≡◌, sym, ◌∙◌}
use mathlib.Core.List.{List}
use native.Mathlib.Omega.{arith}
use lib.ListN.{length, take, drop, length-drop}
use lib.Seq.{length-take-le, take-take}
use borrow.Author.Tests.{le-leb, lt-leb, eq-eqb, ne_eqb}
use Rattle.std.specs.Prelude.{Result, Ok, Err}
use Rattle.wire.specs.Outcome.{refused}
use Rattle.wire.specs.Bytes.{until_zero}
use Rattle.wire.proofs.Outcome.{pass, stop, go_on, halt}
use Rattle.utf8_text.specs.Inner.{Ended}
use Rattle.utf8_text.specs.declared.TextError.{TextError}
use Rattle.opmsg_sequences.specs.Inner.{unnamed}
use Rattle.opmsg.specs.Sections.{Parts, sequence_run, sequence_named}

module _ (size : ℕ) (xs : List ℕ) (least : 5 ≤ size) (fits : 1 + size ≤ length xs) (e : Result ℕ TextError) (found : Ended (take (1 + size - 5) (drop 5 xs)) e) where
  abbrev bytes : List ℕ
  bytes = take (size - 4) (drop 5 xs)

  name : Ended bytes e
  name = let i : 1 + size - 5 ≡ size - 4 = omega arith in rw i at found

  long : length bytes ≡ size - 4
  long = length-take-le (size - 4) (drop 5 xs) (omega (arith, length-drop 5 xs))

  -- how far it reaches
  pub text_inside : (n : ℕ) → e ≡ Ok n → n + 5 ≤ size
  text_inside n i = let f = rw i at name in omega (arith, f.1, long)

  pub broken_inside : (n : ℕ) → e ≡ Err (TextError.IllFormed n) → n + 5 ≤ size
  broken_inside n i = let f = rw i at name in omega (arith, f.0, f.1, long)

  module _ (at : ℕ) (p : Parts) where
    pub empty : (n : ℕ) → e ≡ Ok n → n ≡ 0 → sequence_named size at xs p ≡ refused 13 (at + 5)
    unfolding sequence_named
    empty n i z = let f = rw i at name in stop 13 (at + 5) _ (eq-eqb _ 0 (sym f.0 ∙ z))

    pub text : (n : ℕ) → e ≡ Ok n → (n ≡ 0 → ⊥) → sequence_named size at xs p ≡ sequence_run n size at xs p
    unfolding sequence_named
    text n i z =
        let f = rw i at name in
        let same = take-take n (size - 4) (drop 5 xs) (omega (arith, text_inside n i)) in
        rw (← f.0) (pass 13 (at + 5) _ (ne_eqb n 0 z) ∙ pass 13 (at + 5) _ (lt-leb (size - 4) n (omega (arith, text_inside n i))) ∙ go_on _ (rw same at (f.2 (at + 5))))

    unended : e ≡ Err TextError.Unended → sequence_named size at xs p ≡ refused 13 (at + 5)
    unfolding sequence_named
    unended i =
        let f = rw i at name in
        let n = until_zero bytes in
        pass 13 (at + 5) _ (ne_eqb n 0 (λ z. omega (arith, f, long))) ∙ stop 13 (at + 5) _ (le-leb (size - 4) n (omega (arith, f, long)))

    ill_formed : (n : ℕ) → e ≡ Err (TextError.IllFormed n) → sequence_named size at xs p ≡ refused 27 (at + 5 + n)
    unfolding sequence_named
    ill_formed n i =
        let f = rw i at name in
        let m = until_zero bytes in
        let same = take-take m (size - 4) (drop 5 xs) (omega (arith, f.0, long)) in
        pass 13 (at + 5) _ (ne_eqb m 0 (λ z. omega (arith, f.1))) ∙ pass 13 (at + 5) _ (lt-leb (size - 4) m (omega (arith, f.0, long))) ∙ halt _ (rw same at (f.2 (at + 5)))

    -- the last two, by what is wrong
    pub misread : (t : TextError) → e ≡ Err t → sequence_named size at xs p ≡ unnamed (at + 5) t
    misread TextError.Unended i = unended i
    misread (TextError.IllFormed n) i = ill_formed n i
