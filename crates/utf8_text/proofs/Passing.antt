-- Laws of what the longest well-formed beginning of a text passes: characters, runs of them one behind the other, and where it ends.
-- Assumes nothing.
use Prim.Native.Nat.{ℕ, zero, suc, ◌+◌, ◌-◌, ◌≤◌, ◌<◌}
use mathlib.Core.Path.{◌≡◌, refl, sym, ap}
use mathlib.Core.List.{List, [], ◌∷◌}
use native.Mathlib.Omega.{arith}
use lib.ListN.{length, get_or, take, drop, length-drop, drop_of_length-le}
use lib.Seq.{length-take-le, get_or-take, drop-drop}
use borrow.Author.Tests.{eq-eqb}
use Rattle.std.specs.Prelude.{Ok}
use Rattle.wire.specs.Outcome.{ok}
use Rattle.wire.proofs.Bytes.{at_zero}
use Rattle.wire.proofs.Parts.{rest_part}
use Rattle.utf8.specs.Utf8.{forms}
use Rattle.utf8.specs.Text.{character_of, well_formed, text_at}
use Rattle.utf8.proofs.Longest.{of_character, bounded}
use Rattle.utf8.proofs.Beginning.{one, byte_character, front_passed}
use Rattle.utf8_ascii.specs.Inner.{Ascii, PlainRun}
use Rattle.utf8_text.specs.Inner.{Passes, Ended}

-- ---- one character, or none

pub none_passes : (xs : List ℕ) → Passes 0 xs
none_passes xs = omega arith

pub character_passes : (n : ℕ) (xs : List ℕ) → n ≡ character_of forms xs → Passes n xs
character_passes zero xs e = none_passes xs
character_passes (suc n) xs e = ((of_character forms xs n (sym e)).3, one xs n (sym e))

-- ---- characters of one byte

pub ascii_passes : (n : ℕ) (xs : List ℕ) → n ≤ length xs → Ascii n xs → Passes n xs
ascii_passes zero xs l a = none_passes xs
ascii_passes (suc n) [] l a = absurd (omega arith)
ascii_passes (suc n) (x ∷ xs) l a =
    let rest = ascii_passes n xs (omega arith) (λ i h. a (suc i) (omega arith)) in
    omega (arith, one (x ∷ xs) 0 (byte_character x xs (a 0 (omega arith))))

-- ---- parts `&xs[m..]`, and the ends

pub passes_then : (m n : ℕ) (xs : List ℕ) → Passes m xs → Passes n (drop m xs) → Passes (m + n) xs
passes_then m n xs p q = omega (arith, length-drop m xs, ap well_formed (drop-drop n m xs))

pub passes_part : (m n : ℕ) (xs : List ℕ) → Passes m xs → Passes n (take (length xs - m) (drop m xs)) → Passes (m + n) xs
passes_part m n xs p q = passes_then m n xs p (rw rest_part at q)

pub ends_before : (m : ℕ) (xs : List ℕ) → Passes m xs → well_formed (take (length xs - m) (drop m xs)) ≡ 0 → m ≡ well_formed xs
ends_before m xs p e = omega (arith, rw rest_part at e)

pub ends_at_the_end : (m : ℕ) (xs : List ℕ) → Passes m xs → length xs ≤ m → m ≡ well_formed xs
ends_at_the_end m xs p l = omega (arith, ap well_formed (drop_of_length-le xs l), (bounded []).fits)

-- ---- texts of characters of one byte alone

pub ascii_passed : (n : ℕ) (xs : List ℕ) → n ≤ length xs → Ascii n xs → (at : ℕ) → text_at at (take n xs) ≡ ok tt
ascii_passed n xs l a at =
    let p = ascii_passes n (take n xs) (omega (arith, length-take-le n xs l)) (λ i h. rw get_or-take (a i h)) in
    front_passed n (well_formed (take n xs)) xs l refl at (omega arith)

-- so where a zero byte stands behind them, they are the text that it ends
pub plain_text : (n : ℕ) (xs : List ℕ) → PlainRun n xs → (n < length xs) × (get_or xs n 0 ≡ 0) → Ended xs (Ok n)
plain_text n xs p z = (omega (arith, p.1.1, at_zero xs n z.0 (eq-eqb _ _ z.1)), z.0, ascii_passed n xs p.1.0 p.0)
