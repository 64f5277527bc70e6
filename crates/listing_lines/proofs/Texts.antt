-- Laws of a text that is written piece by piece.
-- Assumes nothing.
use Prim.Native.Nat.{ℕ, ◌+◌, ◌-◌, ◌≤◌, ◌<◌}
use mathlib.Core.Path.{◌≡◌, refl, sym, ap, ◌∙◌}
use mathlib.Core.List.{List, [], ◌∷◌, ◌++◌, append_assoc}
use native.Mathlib.Omega.{arith}
use native.Mathlib.Numerals.{add-one}
use lib.ListN.{length, take, drop, set, length-append, length-drop}
use lib.Seq.{take_at, drop_at, drop-drop, set_split, append_snoc}
use Rattle.wire.specs.Bytes.{put}
use Rattle.wire.proofs.Parts.{put_fits}
use Rattle.listing_lines.specs.Written.{TextWritten}

module _ {text old new : List ℕ} {at : ℕ} (w : TextWritten text old new at) where
  -- the text stands at the start
  pub front : take at new ≡ text
  front = ap (take at) w.is ∙ take_at text (drop at old) at (sym w.size)

  behind : (k : ℕ) → drop (at + k) new ≡ drop (at + k) old
  behind k =
      sym (drop-drop k at new) ∙ ap (drop k) (ap (drop at) w.is ∙ drop_at text (drop at old) at (sym w.size)) ∙ drop-drop k at old

  -- bytes are put behind the text
  pub put_behind : (xs : List ℕ) → at + length xs ≤ length new → TextWritten (text ++ xs) old (put at xs new) (at + length xs)
  put_behind xs h = record {
    is = put_fits at xs new h ∙ rw (front, behind (length xs));
    size = omega (arith, length-append text xs, w.size);
  }

  -- a byte is stored behind the text
  byte_behind : (b : ℕ) → at < length new → TextWritten (text ++ b ∷ []) old (set new at b) (at + 1)
  byte_behind b h = record {
    is = set_split new at b h ∙ rw (← add-one at, front, behind 1) (sym (append_snoc text b (drop (at + 1) old)));
    size = omega (arith, length-append text (b ∷ []), w.size);
  }

-- bytes are put at the start
pub begun : {old new : List ℕ} (xs : List ℕ) → new ≡ put 0 xs old → length xs ≤ length old → TextWritten xs old new (0 + length xs)
begun {old} xs e h =
    let none : TextWritten [] old old 0 = record { is = refl; size = refl } in
    rw e (put_behind none xs (omega arith))

-- bytes are put behind the text, and a byte behind them
pub field_behind : {text old new mid xs ds : List ℕ} {at k : ℕ} (b : ℕ) → TextWritten text old new at → mid ≡ put at xs new → xs ≡ ds → k ≡ length xs → at + k < length new
    → TextWritten (text ++ (ds ++ b ∷ [])) old (set mid (at + k) b) (at + k + 1)
field_behind {text} {old} {new} {mid} {xs} {ds} {at} {k} b w put_is ds-is k_is h =
    let one : TextWritten (text ++ xs) old mid (at + k) = rw (put_is, k_is) (put_behind w xs (omega arith)) in
    let long : length new ≡ length text + (length old - at) = ap length w.is ∙ length-append text (drop at old) ∙ rw (length-drop at old) in
    let wide : length mid ≡ length (text ++ xs) + (length old - (at + k)) = ap length one.is ∙ length-append (text ++ xs) (drop (at + k) old) ∙ rw (length-drop (at + k) old) in
    rw (← ds-is, ← append_assoc) (byte_behind one b (omega (arith, long, wide, w.size, one.size)))

-- the text in other words, and its length
pub ended : {text other old new : List ℕ} {r : ℕ} → text ≡ other → TextWritten text old new r → TextWritten other old new r × ((r ≤ length new) × (r ≡ length (take r new)))
ended {text} {other} {old} {new} {r} e w =
    (rw e at w, (omega (arith, ap length w.is, length-append text (drop r old), w.size), w.size ∙ ap length (sym (front w))))

-- the lent bytes, once they are no longer lent, are those that were written last
pub given_back : {text old new last : List ℕ} {r : ℕ} → TextWritten text old last r → new ≡ last → TextWritten text old new r
given_back w e = rw e w
