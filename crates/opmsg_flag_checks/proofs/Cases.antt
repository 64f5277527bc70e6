-- What checks 7 to 9 answer, case by case, as code tells the cases apart.
-- Assumes nothing.
use Rattle.std.proofs.Common.{◌≡◌, ℕ, ◌+◌, ◌<◌, ◌≤◌, ◌-◌, List, length, take, drop, refl, sym, ap, ◌∙◌, true, false}
use Rattle.std.specs.Prelude.{not}
use borrow.Author.Tests.{lt-ltb, le-ltb}
use Rattle.wire.specs.Outcome.{ok, refused, refuse}
use Rattle.wire.specs.Bytes.{word, word_at}
use Rattle.wire.proofs.Outcome.{stop, pass}
use Rattle.wire.proofs.Parts.{rest_part}
use Rattle.opmsg.specs.Flags.{all_known}
use Rattle.opmsg.specs.Layout.{message_length, flag_word, checksum_size, checksum_differs}
use Rattle.opmsg.specs.Read.{flagged}
use Rattle.opmsg.proofs.Limits.{checksum_small}
use Rattle.opmsg.specs.declared.Edition.{Edition}

-- the message's numbers, as code reads them
pub message_length_is : (s : List ℕ) → message_length s ≡ word s
unfolding word_at
message_length_is s = refl

pub flag_word_is : (s : List ℕ) → flag_word s ≡ word (take (length s - 16) (drop 16 s))
unfolding word_at
flag_word_is s = sym (ap word (rest_part 16 s))

module _ (e : Edition) (s : List ℕ) where
  pub short : word s < 20 → flagged e s ≡ refused 7 16
  unfolding flagged word_at
  short h = stop 7 16 _ (lt-ltb _ _ h)

  module _ (least : 20 ≤ word s) (flags : ℕ) (read : flags ≡ word (take (length s - 16) (drop 16 s))) where
    flags_are : flags ≡ word (drop 16 s)
    flags_are = read ∙ ap word (rest_part 16 s)

    pub unknown : all_known 16 e.bits flags ≡ false → flagged e s ≡ refused 8 16
    unfolding flagged word_at
    unknown h = pass 7 16 _ (le-ltb _ _ least) ∙ stop 8 16 _ (ap (λ (n : ℕ). not (all_known 16 e.bits n)) (sym flags_are) ∙ ap not h)

    module _ (known : all_known 16 e.bits flags ≡ true) where
      pub no_room : word s < 20 + checksum_size flags → flagged e s ≡ refused 7 16
      unfolding flagged word_at
      no_room h =
          pass 7 16 _ (le-ltb _ _ least) ∙ pass 8 16 _ (ap (λ (n : ℕ). not (all_known 16 e.bits n)) (sym flags_are) ∙ ap not known)
          ∙ stop 7 16 _ (rw (← flags_are) (lt-ltb _ _ h))

      module _ (room : 20 + checksum_size flags ≤ word s) where
        rest : flagged e s ≡ refuse 9 (word s - 4) (checksum_differs s)
        unfolding flagged word_at
        rest =
            pass 7 16 _ (le-ltb _ _ least) ∙ pass 8 16 _ (ap (λ (n : ℕ). not (all_known 16 e.bits n)) (sym flags_are) ∙ ap not known)
            ∙ pass 7 16 _ (rw (← flags_are) (le-ltb _ _ room))

        pub other_checksum : checksum_differs s ≡ true → flagged e s ≡ refused 9 (word s - 4)
        unfolding refuse
        other_checksum h = rest ∙ rw h

        pub accepted : checksum_differs s ≡ false → flagged e s ≡ ok tt
        unfolding refuse
        accepted h = rest ∙ rw h

pub ruleset cases = (message_length_is, flag_word_is, checksum_small, short, unknown, no_room, other_checksum, accepted)
