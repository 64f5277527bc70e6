-- However a stream is cut into pieces, a run prints its listing.
-- Assumes nothing.
use Prim.Native.Nat.{ℕ, zero, suc, ◌+◌, ◌*◌, ◌<◌}
use mathlib.Core.Bool.{Bool, true, false, false≢true}
use mathlib.Core.Path.{◌≡◌, refl, sym, ap, ◌∙◌}
use mathlib.Core.List.{List, [], ◌∷◌, ◌++◌, append_assoc, flatten}
use native.Mathlib.Omega.{arith}
use lib.ListN.{length, drop, length-append, length-drop}
use Rattle.listing_lines.specs.Lines.{version, first_line, end_line}
use Rattle.listing.specs.Listing.{entries, messages_of, lines, listed, listing}
use Rattle.listing.specs.Run.{start, Turned, turn, Input, supplied, onward, printed, unread, AnyPieces}
use Rattle.listing.specs.declared.Run.{Run}
use Rattle.listing.proofs.Rest.{told, rest}
use Rattle.listing.proofs.Fair.{outside, after, Paced, Fair, fair}

-- the bytes that a run has before it
abbrev ahead : Input → List ℕ
ahead i = i.held ++ flatten i.pieces

-- one where the end of the stream is still to be found
abbrev open_end : Bool → ℕ
open_end true = 0
open_end false = 1

-- no run takes more turns
abbrev weight : Run → Input → ℕ
weight r i = 2 * length (ahead i) + outside r + length i.pieces + open_end i.ended

-- no pieces come behind the end
abbrev Sound : Input → Type 0
Sound i = i.ended ≡ true → i.pieces ≡ []

nothing_behind : (i : Input) → Sound i → i.ended ≡ true → flatten i.pieces ≡ []
unfolding flatten
nothing_behind i ok e = ap flatten (ok e)

-- ---- reading one piece more

supplied_ahead : (held : List ℕ) (pieces : List (List ℕ)) → ahead (supplied held pieces) ≡ held ++ flatten pieces
unfolding supplied flatten
supplied_ahead held [] = refl
supplied_ahead held (piece ∷ pieces) = append_assoc held piece (flatten pieces)

supplied_sound : (held : List ℕ) (pieces : List (List ℕ)) → Sound (supplied held pieces)
unfolding supplied
supplied_sound held [] = λ e. refl
supplied_sound held (piece ∷ pieces) = λ e. absurd (false≢true e)

supplied_fewer : (held : List ℕ) (pieces : List (List ℕ))
    → length (supplied held pieces).pieces + open_end (supplied held pieces).ended ≡ length pieces
unfolding supplied
supplied_fewer held [] = refl
supplied_fewer held (piece ∷ pieces) = omega arith

-- ---- going on

-- what a turn leaves: the same bytes but for those that are used up, and fewer turns to come
record Onward (r : Run) (t : Turned) (i j : Input) : Type 0 where
  bytes : ahead j ≡ drop t.used i.held ++ flatten i.pieces
  sound : Sound j
  fewer : weight t.run j < weight r i

module _ (r : Run) (t : Turned) (i : Input) (f : Fair r i.ended i.held t) (ok : Sound i) (going : t.run.done ≡ false) where
  shorter : length (drop t.used i.held ++ flatten i.pieces) + t.used ≡ length i.held + length (flatten i.pieces)
  shorter = omega (arith, length-append (drop t.used i.held) (flatten i.pieces), length-drop t.used i.held, f.within)

  goes_on : Onward r t i (onward t i)
  unfolding onward
  goes_on = go t.more refl
    where
      go : (b : Bool) → t.more ≡ b → Onward r t i (onward t i)
      go true e =
          let p : Paced r i.ended i.held t true = rw e at f.pace in
          let s = supplied_ahead (drop t.used i.held) i.pieces in
          rw (onward, e) (record {
            bytes = s;
            sound = supplied_sound (drop t.used i.held) i.pieces;
            fewer = rw p.0 (omega (arith, p.1, ap length s, shorter, length-append i.held (flatten i.pieces), supplied_fewer (drop t.used i.held) i.pieces));
          })
      go false e =
          let p : Paced r i.ended i.held t false = rw e at f.pace in
          rw (onward, e) (record { bytes = refl; sound = ok; fewer = omega (arith, p going, shorter, f.within, length-append i.held (flatten i.pieces)) })

-- ---- the run

-- a turn and what comes behind it
turned : (turns : ℕ) (t : Turned) (j : Input) (x : List ℕ) → (t.run.done ≡ false → printed turns t.run j ≡ rest t.run x)
    → ◌≡◌ {A = List ℕ} (elim t.run.done [ true ↦ end_line t.run.messages | false ↦ printed turns t.run j ]) (after t x)
unfolding after
turned turns t j x then = go t.run.done refl then
  where
    go : (b : Bool) → t.run.done ≡ b → (b ≡ false → printed turns t.run j ≡ rest t.run x)
        → ◌≡◌ {A = List ℕ} (elim b [ true ↦ end_line t.run.messages | false ↦ printed turns t.run j ]) (elim b [ true ↦ end_line t.run.messages | false ↦ rest t.run x ])
    go true e then = refl
    go false e then = then refl

prints_rest : (turns : ℕ) (r : Run) (i : Input) → r.done ≡ false → Sound i → weight r i < turns → printed turns r i ≡ rest r (ahead i)
unfolding printed
prints_rest zero r i d ok few = absurd (omega arith)
prints_rest (suc turns) r i d ok few =
    let t = turn r i.ended i.held in
    let f = fair r i.ended i.held d in
    let left = drop t.used i.held ++ flatten i.pieces in
    ap (λ (l : List ℕ). t.line ++ l)
    (turned turns t (onward t i) left
    (λ going.
    let o = goes_on r t i f ok going in
    prints_rest turns t.run (onward t i) going o.sound (omega (arith, o.fewer, few)) ∙ ap (rest t.run) o.bytes))
    ∙ sym (f.says (flatten i.pieces) (nothing_behind i ok))

-- from the start all is still to be printed
told_all : (s : List ℕ) → first_line version ++ rest start s ≡ listing s
unfolding rest told listing listed
told_all s =
    let es = entries s in
    let n : 0 + messages_of es ≡ messages_of es = omega arith in
    ap (λ (k : ℕ). first_line version ++ (lines 0 es ++ end_line k)) n ∙ sym (append_assoc (first_line version) (lines 0 es) (end_line (messages_of es)))

pub any_pieces : AnyPieces
unfolding outside
any_pieces pieces turns few =
    let i = unread pieces in
    ap (λ (l : List ℕ). first_line version ++ l) (prints_rest turns start i refl (λ e. absurd (false≢true e)) (omega arith)) ∙ told_all (flatten pieces)
