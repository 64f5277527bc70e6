-- What the checks before the body is read answer, case by case, as code tells the cases apart.
-- Assumes nothing.
use Rattle.std.proofs.Common.{◌≡◌, ℕ, ◌+◌, ◌<◌, ◌≤◌, List, length, ap, ◌∙◌, true, false, arith, ℤ}
use Rattle.std.specs.Prelude.{◌≢◌, not}
use borrow.Author.Tests.{lt-ltb, le-ltb, ne_eqb}
use Rattle.wire.specs.Outcome.{refused}
use Rattle.wire.specs.Bytes.{word}
use Rattle.wire.proofs.Outcome.{stop, pass}
use Rattle.opmsg.specs.Flags.{all_known}
use Rattle.opmsg.specs.Layout.{max_length, checksum_size}
use Rattle.opmsg.specs.declared.Edition.{Edition}
use Rattle.opmsg.proofs.Limits.{checksum_small}
use Rattle.message.specs.Message.{whole_length}
use Rattle.message.specs.Write.{write}
use Rattle.message_write_checks.specs.Inner.{Fit}

module _ (e : Edition) (flags : ℕ) (body : List ℕ) (room : ℕ) (i j : ℤ) where
  pub unknown : all_known 32 e.bits flags ≡ false → write e i j flags body room ≡ refused 8 16
  unfolding write
  unknown h = stop 8 16 _ (ap not h)

  module _ (known : all_known 32 e.bits flags ≡ true) where
    pub too_long : 48000000 < 21 + checksum_size flags + length body → write e i j flags body room ≡ refused 2 0
    unfolding write max_length whole_length
    too_long h = pass 8 16 _ (ap not known) ∙ stop 2 0 _ (lt-ltb _ _ (omega arith))

    module _ (limit : 21 + checksum_size flags + length body ≤ 48000000) where
      pub too_short : room < 21 + checksum_size flags + length body → write e i j flags body room ≡ refused 25 0
      unfolding write max_length whole_length
      too_short h = pass 8 16 _ (ap not known) ∙ pass 2 0 _ (le-ltb _ _ (omega arith)) ∙ stop 25 0 _ (lt-ltb _ _ (omega arith))

      module _ (fits : 21 + checksum_size flags + length body ≤ room) where
        pub no_length : length body < 4 → write e i j flags body room ≡ refused 15 21
        unfolding write max_length whole_length
        no_length h = pass 8 16 _ (ap not known) ∙ pass 2 0 _ (le-ltb _ _ (omega arith)) ∙ pass 25 0 _ (le-ltb _ _ (omega arith)) ∙ stop 15 21 _ (lt-ltb _ _ h)

        pub other_length : 4 ≤ length body → word body ≢ length body → write e i j flags body room ≡ refused 15 21
        unfolding write max_length whole_length
        other_length l h =
            pass 8 16 _ (ap not known) ∙ pass 2 0 _ (le-ltb _ _ (omega arith)) ∙ pass 25 0 _ (le-ltb _ _ (omega arith)) ∙ pass 15 21 _ (le-ltb _ _ l) ∙ stop 15 21 _ (ap not (ne_eqb _ _ h))

-- all of them are passed
pub fit : (e : Edition) (flags : ℕ) (body : List ℕ) (room : ℕ) → all_known 32 e.bits flags ≡ true → 21 + checksum_size flags + length body ≤ 48000000
    → 21 + checksum_size flags + length body ≤ room → 4 ≤ length body → word body ≡ length body → Fit e flags body room
unfolding max_length whole_length
fit e flags body room known limit fits least stated = record { known = ap not known; limit = omega arith; holds = omega arith; least = least; stated = stated }

pub ruleset cases = (checksum_small, unknown, too_long, too_short, no_length, other_length)
