-- Laws of the program's turns: what it has before it after one.
-- Assumes nothing.
use Prim.Native.Nat.{ℕ, ◌+◌, ◌-◌, ◌≤◌}
use mathlib.Core.Bool.{Bool, true, false}
use mathlib.Core.Path.{◌≡◌, refl, sym, ◌∙◌}
use mathlib.Core.List.{List, [], ◌∷◌}
use native.Mathlib.Omega.{arith}
use lib.ListN.{take, drop}
use lib.Dec.{eqb}
use borrow.Author.Tests.{eqb-true}
use Rattle.wire.proofs.Parts.{next_part}
use Rattle.listing_input.proofs.Held.{read_behind}
use Rattle.listing.specs.Run.{Turned, supplied, onward}
use Rattle.listing.specs.declared.Run.{Run}
use Rattle.relay_log.specs.Inner.{held, Took}
use Rattle.relay_log.specs.declared.Progress.{Progress}

-- what was read behind the bytes that were kept is a piece, or it is nothing and the stream has ended
record Supply (rest new : List ℕ) (kept to : ℕ) : Type 0 where
  pieces : List (List ℕ)
  is : supplied rest pieces ≡ record { held = take to new; pieces = []; ended = eqb to kept }

supply : (rest new : List ℕ) (kept to : ℕ) → take kept new ≡ rest → kept ≤ to → Supply rest new kept to
unfolding supplied
supply rest new kept to front l = go (eqb to kept) refl
  where
    go : (b : Bool) → eqb to kept ≡ b → Supply rest new kept to
    go true e =
        let same = eqb-true to kept e in
        record { pieces = []; is = rw (e, same, front) }
    go false e =
        record { pieces = take (to - kept) (drop kept new) ∷ []; is = rw (e, read_behind rest new kept to front l) }

module _ (t : Turned) (p : Progress) (old : List ℕ) (used : ℕ) (run : Run) (done : Bool) (u : used ≡ t.used) (r : run ≡ t.run) where
  -- a turn that asks for no more
  pub took_on : t.more ≡ false → Took t p old (record { window = record { at = p.window.at + used; end = p.window.end; ended = p.window.ended }; done = done; run = run }) old
  unfolding onward
  took_on m = record {
    run = r;
    pieces = [];
    before = rw (onward, m, ← u, next_part p.window.at used p.window.end old);
  }

  -- one that does: what is kept stands at the front, and what was read behind it
  pub took_more : (new : List ℕ) (to : ℕ) → t.more ≡ true → take (p.window.end - (p.window.at + used)) new ≡ take (p.window.end - (p.window.at + used)) (drop (p.window.at + used) old) → p.window.end - (p.window.at + used) ≤ to
      → Took t p old (record { window = record { at = 0; end = to; ended = eqb to (p.window.end - (p.window.at + used)) }; done = done; run = run }) new
  unfolding onward
  took_more new to m front l =
      let s = supply (drop used (held p old)) new (p.window.end - (p.window.at + used)) to (front ∙ sym (next_part p.window.at used p.window.end old)) l in
      let none : to - 0 ≡ to = omega arith in
      record {
        run = r;
        pieces = s.pieces;
        before = rw (onward, m, ← u, none) s.is;
      }
