use Rattle.std.proofs.Common.{◌≡◌, ℕ, Bool, true, false, ◌&&◌, List, [], ◌∷◌, refl, ◌∙◌}
use lib.Dec.{eqb}
use lib.Pointwise.{pointwise}
use Rattle.opmsg.specs.Names.{same_text}
use Rattle.opmsg_body_names.proofs.same.Goals as goal

equal : (a b : List ℕ) → pointwise eqb a b ≡ same_text a b
unfolding same_text
equal [] [] = refl
equal [] (y ∷ b) = refl
equal (x ∷ a) [] = refl
equal (x ∷ a) (y ∷ b) = go (eqb x y) (equal a b)
  where
    go : (t : Bool) → pointwise eqb a b ≡ same_text a b → ◌≡◌ {A = Bool} (t && pointwise eqb a b) (elim t [ true ↦ same_text a b | false ↦ false ])
    go true e = e
    go false e = refl

pub returns : goal.returns
returns c = c.eq.ensures ∙ equal c.args.a.now c.args.b.now
