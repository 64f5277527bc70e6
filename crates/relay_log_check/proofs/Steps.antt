-- Laws of the program's turns: what is told of the listing stays the same.
-- Assumes nothing.
use Prim.Native.Nat.{ℕ, ◌+◌, ◌-◌, ◌≤◌}
use mathlib.Core.Bool.{Bool}
use mathlib.Core.Path.{◌≡◌}
use mathlib.Core.List.{List, [], ◌++◌, append-nil}
use native.Mathlib.Omega.{arith}
use lib.ListN.{take, drop}
use Rattle.wire.proofs.Parts.{next_part}
use Rattle.listing_input.proofs.Held.{read_behind}
use Rattle.listing_check.specs.Inner.{tell}
use Rattle.listing_check.specs.declared.Standing.{Standing}
use Rattle.relay_log_check.specs.Inner.{held, Went}
use Rattle.relay_log_check.specs.declared.Progress.{Progress}

module _ (p : Progress) (old : List ℕ) where
  -- bytes at hand were read
  pub went_on : (next : Standing) (used : ℕ) (done : Bool) → ((later : List ℕ) → tell p.standing (held p old ++ later) ≡ tell next (drop used (held p old) ++ later))
      → Went p old (record { window = record { at = p.window.at + used; end = p.window.end; ended = p.window.ended }; done = done; standing = next }) old
  went_on next used done h = record { piece = []; tells = λ later. rw (append-nil, ← next_part p.window.at used p.window.end old) (h later) }

  -- more were read behind them
  pub went_more : (new : List ℕ) (to : ℕ) (ended done : Bool) → take (p.window.end - p.window.at) new ≡ held p old → p.window.end - p.window.at ≤ to
      → Went p old (record { window = record { at = 0; end = to; ended = ended }; done = done; standing = p.standing }) new
  went_more new to ended done front l =
      let kept = p.window.end - p.window.at in
      let none : to - 0 ≡ to = omega arith in
      record { piece = take (to - kept) (drop kept new); tells = λ later. rw (none, read_behind (held p old) new kept to front l) }
