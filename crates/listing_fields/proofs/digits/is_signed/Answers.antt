-- A minus sign, or none.
use Rattle.std.proofs.Common.{ℕ, ◌≡◌, ◌∙◌, Bool, true, false, ◌&&◌, List, [], ◌∷◌, take, get_or, eqb, refl, sym}
use lib.Pointwise.{pointwise}
use Rattle.listing_fields.proofs.Spelling.{tells, signed_plain, signed_minus}
use Rattle.listing_fields.proofs.digits.is_signed.Goals as goal

and_true : (b : Bool) → (b && true) ≡ b
and_true true = refl
and_true false = refl

first : (f : List ℕ) → eqb (get_or f 0 0) 45 ≡ pointwise eqb (take 1 f) (45 ∷ [])
first [] = refl
first (x ∷ f) = sym (and_true (eqb x 45))

pub returns-in-Some : goal.returns-in-Some
returns-in-Some c = λ k.
    let found = c.in-Some.ensures.cases in
    signed_minus k c.args.f.now (first c.args.f.now ∙ found.0) ∙ rw found.1 at (tells k c.between.result _ (c.between.ensures k) c.is_some.ensures)

pub returns-in-None : goal.returns-in-None
returns-in-None c = λ k.
    signed_plain k c.args.f.now (first c.args.f.now ∙ c.in-None.ensures.cases)
    ∙ tells k c.between-in-None.result _ (c.between-in-None.ensures k) c.is_some-in-None.ensures
