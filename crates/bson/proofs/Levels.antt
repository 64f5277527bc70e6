-- Laws of documents and elements that the proof of the code's cycle of calls cites: what each part that was read makes of the whole.
-- Assumes nothing.
use Prim.Native.Nat.{ℕ, zero, suc, ◌+◌, ◌-◌, ◌^◌, ◌≤◌, ◌<◌}
use mathlib.Core.List.{List}
use mathlib.Core.Bool.{not}
use mathlib.Core.Path.{◌≡◌, refl, sym, ap}
use native.Mathlib.Omega.{arith}
use native.Mathlib.Numerals.{sub-one}
use lib.ListN.{length, take, drop, length-drop}
use lib.Dec.{eqb}
use Rattle.wire.specs.Outcome.{ok, refused, refuse, ◌>>=◌}
use Rattle.wire.specs.Walk.{Reader, step, walk}
use Rattle.wire.proofs.Outcome.{check_leb}
use Rattle.wire.proofs.Parts.{rest_part}
use Rattle.bson_values.specs.Value.{plain, embedded, scoped}
use Rattle.bson_elements.specs.Element.{Head, head, inside, element, max_elements}
use Rattle.bson.specs.Document.{frame, document_at}
use Rattle.bson.proofs.Frame.{Framed, frame_is}

-- where an element was begun, the limit is not reached, so that one more can be counted
pub few : (at : ℕ) (xs : List ℕ) (count : ℕ) (h : Head) → ok h ≡ head at xs count → count < 2 ^ 31
unfolding head max_elements
few at xs count h e = omega (arith, ((check_leb _ _ _ _ max_elements count).0 (sym e)).0)

-- a document: none at no level; else its frame, and then its elements
pub no_level : (levels at : ℕ) (xs : List ℕ) (count : ℕ) → levels ≡ 0 → refused 20 at ≡ document_at levels at xs count
unfolding document_at
no_level levels at xs count e = rw e

module _ (at : ℕ) (xs : List ℕ) (count : ℕ) where
  pub shut : (levels : ℕ) → (levels ≡ 0 → ⊥) → (number place : ℕ) → refused number place ≡ frame at xs → refused number place ≡ document_at levels at xs count
  unfolding document_at ◌>>=◌
  shut zero l number place h = absurd (l refl)
  shut (suc k) l number place h = rw (document_at, ← h)

  pub opens : (levels : ℕ) → (levels ≡ 0 → ⊥) → (n : ℕ) → ok n ≡ frame at xs
      → Framed xs n × (document_at levels at xs count ≡ (walk (element (document_at (levels - 1))) n (at + 4) (take (n - 1 - 4) (drop 4 xs)) count >>= step n))
  unfolding document_at ◌>>=◌
  opens zero l n h = absurd (l refl)
  opens (suc k) l n h =
      let five : n - 1 - 4 ≡ n - 5 = omega arith in
      ((frame_is at xs n).0 (sym h), rw (sub-one (suc k), five, document_at, ← h))

-- an element by its head, and by what the document in it is: `rest` is the part `&xs[start..]`
module _ (document : Reader ℕ) (at : ℕ) (xs : List ℕ) (count start : ℕ) where
  abbrev rest : List ℕ
  rest = take (length xs - start) (drop start xs)

  pub plain_element : (size : ℕ) → ok (record { start = start; value = plain size }) ≡ head at xs count → step (start + size) (count + 1) ≡ element document at xs count
  unfolding element inside ◌>>=◌
  plain_element size h = rw (element, ← h, inside)

  pub embedded_element : ok (record { start = start; value = embedded }) ≡ head at xs count
      → (document (at + start) rest (count + 1) >>= λ r. step (start + r.size) r.state) ≡ element document at xs count
  unfolding element inside ◌>>=◌
  embedded_element h = rw (element, ← h, inside, rest_part start xs)

  pub scoped_element : (from size : ℕ) → ok (record { start = start; value = scoped from size }) ≡ head at xs count
      → ((document (at + start + from) (take (size - from) (drop from rest)) (count + 1) >>= λ d. refuse 19 (at + start) (not (eqb (from + d.size) size)) >>= λ _. step size d.state) >>= λ r. step (start + r.size) r.state)
      ≡ element document at xs count
  unfolding element inside ◌>>=◌
  scoped_element from size h = rw (element, ← h, inside, rest_part start xs)

  -- how long it is
  pub long : start ≤ length xs → start + length rest ≡ length xs
  long l = omega (arith, ap length (rest_part start xs), length-drop start xs)
