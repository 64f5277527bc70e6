-- A stored listing that comes in pieces: what a reader tells that stands somewhere in it.
-- Assumes nothing: these are definitions.
use Rattle.std.specs.Prelude.{ℕ, ◌+◌, ◌≤◌, ◌<◌, Bool, true, false, ◌≡◌, List, [], ◌++◌, length, drop, Result, Ok, Err}
use Rattle.wire.specs.Outcome.{Outcome, ◌>>=◌}
use Rattle.listing_stored.specs.Stored.{Told, read_listing}
use Rattle.listing_stored.specs.Answers.{told}
use Rattle.listing_stored.specs.Inner.{limited, position_of, run, answered}
use Rattle.listing_stored.specs.declared.WrongLine.{WrongLine}
use Rattle.listing_check.specs.declared.Standing.{Standing}
use Rattle.listing_check.specs.declared.Standing.TheVariants.{Start, Inside}
use Rattle.listing_check.specs.declared.Checked.{Checked}
use Rattle.listing_check.specs.declared.Checked.TheVariants.{On, More, Done}

-- what is told of a listing by a reader that stands there, where xs are the bytes that are left
unfoldable pub tell : Standing → List ℕ → Outcome Told
tell Start xs = read_listing xs
tell (Inside v p) xs = run (limited v) xs (position_of p) >>= answered (limited v)

-- how many lines and messages are behind it
abbrev pub counted : Standing → ℕ
counted Start = 0
counted (Inside v p) = p.line + p.messages

-- Of the bytes at hand, s, behind which others may come unless the listing has ended: some are read, and what is told stays the same,
-- whatever comes; or more are wanted, where they are few; or all is told.
abbrev pub Tells : Standing → List ℕ → (ended : Bool) → Result Checked WrongLine → Type 0
Tells at s ended (Ok (On next used)) = (0 < used) × (used ≤ length s) × (counted next ≤ counted at + 2) × ((later : List ℕ) → tell at (s ++ later) ≡ tell next (drop used s ++ later))
Tells at s ended (Ok More) = (ended ≡ false) × (length s < 256)
Tells at s ended (Ok (Done l)) = (later : List ℕ) → (ended ≡ true → later ≡ []) → told (Ok l) ≡ tell at (s ++ later)
Tells at s ended (Err w) = (later : List ℕ) → (ended ≡ true → later ≡ []) → told (Err w) ≡ tell at (s ++ later)
