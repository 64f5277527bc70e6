-- The head of an element by what is found of its name, in the part `&xs[1..]`.
-- Assumes nothing.
use Prim.Native.Nat.{ℕ, ◌+◌, ◌-◌, ◌<◌}
use mathlib.Core.Path.{◌≡◌, ◌∙◌}
use mathlib.Core.List.{List}
use native.Mathlib.Omega.{arith}
use lib.ListN.{length, get_or, take, drop, length-drop}
use borrow.Author.Tests.{le-leb, lt-leb}
use Rattle.std.specs.Prelude.{Result, Ok, Err}
use Rattle.wire.specs.Outcome.{Outcome, ok, ◌>>=◌}
use Rattle.wire.proofs.Outcome.{pass, stop, go_on, halt, same_after}
use Rattle.wire.proofs.Parts.{rest_part}
use Rattle.utf8_text.specs.Inner.{Ended}
use Rattle.utf8_text.specs.declared.TextError.{TextError}
use Rattle.bson_values.specs.Value.{Value, table, rule_in}
use Rattle.bson_elements.specs.Element.{Head, max_elements, head}
use Rattle.bson_elements.specs.Inner.{unnamed}

-- an element by where its value starts, and what that is
abbrev pub begins : (start : ℕ) → Outcome Value → Outcome Head
begins start o = o >>= λ value. ok (record { start = start; value = value })

module _ (at : ℕ) (xs : List ℕ) (count : ℕ) (few : count < max_elements) (r : Result ℕ TextError) (found : Ended (take (length xs - 1) (drop 1 xs)) r) where
  name : Ended (drop 1 xs) r
  name = rw rest_part at found

  -- text of n bytes
  pub named : (n : ℕ) → r ≡ Ok n → head at xs count ≡ (rule_in table at (get_or xs 0 0) >>= λ rule. begins (n + 2) (rule (at + (n + 2)) (drop (n + 2) xs)))
  unfolding head
  named n i =
      let f = rw i at name in
      let fits : n + 1 < length xs = omega (arith, f.1, length-drop 1 xs) in
      pass 21 at _ (lt-leb max_elements count few)
      ∙ same_after (rule_in table at (get_or xs 0 0)) _ _ (λ rule _. rw (← f.0) (pass 18 (at + 1) _ (lt-leb (length xs) (1 + n) (omega arith)) ∙ go_on _ (f.2 (at + 1))))

  -- no zero byte, or not UTF-8
  pub misread : (e : TextError) → r ≡ Err e → head at xs count ≡ unnamed (get_or xs 0 0) at e
  unfolding head
  misread TextError.Unended i =
      let f = rw i at name in
      pass 21 at _ (lt-leb max_elements count few) ∙ same_after (rule_in table at (get_or xs 0 0)) _ _ (λ rule _. stop 18 (at + 1) _ (le-leb (length xs) _ (omega (arith, f, length-drop 1 xs))))
  misread (TextError.IllFormed n) i =
      let f = rw i at name in
      pass 21 at _ (lt-leb max_elements count few)
      ∙ same_after (rule_in table at (get_or xs 0 0)) _ _ (λ rule _. pass 18 (at + 1) _ (lt-leb (length xs) _ (omega (arith, f.0, length-drop 1 xs))) ∙ halt _ (f.2 (at + 1)))
