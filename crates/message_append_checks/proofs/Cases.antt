-- What the checks of an append answer, case by case, as code tells the cases apart.
-- Assumes nothing.
use Rattle.std.proofs.Common.{◌≡◌, ℕ, ◌+◌, ◌<◌, ◌≤◌, List, length, ◌∙◌, true, false}
use Rattle.std.specs.Prelude.{◌≢◌, ltb}
use borrow.Author.Tests.{lt-ltb, le-ltb, le-leb, lt-leb, eq-eqb, ne_eqb}
use Rattle.wire.specs.Outcome.{ok, refused, refuse, ◌>>=◌}
use Rattle.wire.specs.Bytes.{until_zero}
use Rattle.wire.proofs.Outcome.{stop, pass, go_on, halt}
use Rattle.utf8.specs.Text.{text_at, well_formed}
use Rattle.opmsg.specs.Flags.{knows}
use Rattle.opmsg.specs.Layout.{max_length}
use Rattle.opmsg.specs.Sections.{max_sequences}
use Rattle.opmsg.specs.declared.Edition.{Edition}
use Rattle.message_append_checks.specs.Inner.{allowed, permitted}

module _ (e : Edition) (end count : ℕ) (identifier : List ℕ) (whole room : ℕ) where
  pub not_known : e.sequences ≡ false → allowed e end count identifier whole room ≡ refused 10 end
  unfolding allowed knows
  not_known h = stop 10 end _ (rw h)

  module _ (known : e.sequences ≡ true) where
    pub too_many : 16 ≤ count → allowed e end count identifier whole room ≡ refused 14 end
    unfolding allowed knows max_sequences
    too_many h = pass 10 end _ (rw known) ∙ stop 14 end _ (le-leb _ _ h)

    module _ (few : count < 16) where
      pub empty : length identifier ≡ 0 → allowed e end count identifier whole room ≡ refused 13 (end + 5)
      unfolding allowed knows max_sequences
      empty h = pass 10 end _ (rw known) ∙ pass 14 end _ (lt-leb _ _ few) ∙ stop 13 (end + 5) _ (eq-eqb _ _ h)

      module _ (some : length identifier ≢ 0) where
        pub zero_within : until_zero identifier < length identifier → allowed e end count identifier whole room ≡ refused 13 (end + 5)
        unfolding allowed knows max_sequences
        zero_within h = pass 10 end _ (rw known) ∙ pass 14 end _ (lt-leb _ _ few) ∙ pass 13 (end + 5) _ (ne_eqb _ _ some) ∙ stop 13 (end + 5) _ (lt-ltb _ _ h)

        module _ (without : length identifier ≤ until_zero identifier) where
          rest : allowed e end count identifier whole room ≡ (refuse 2 0 (ltb max_length whole) >>= λ _. refuse 25 0 (ltb room whole))
          unfolding allowed knows max_sequences
          rest = pass 10 end _ (rw known) ∙ pass 14 end _ (lt-leb _ _ few) ∙ pass 13 (end + 5) _ (ne_eqb _ _ some) ∙ pass 13 (end + 5) _ (le-ltb _ _ without)

          pub too_long : 48000000 < whole → allowed e end count identifier whole room ≡ refused 2 0
          unfolding max_length
          too_long h = rest ∙ stop 2 0 _ (lt-ltb _ _ h)

          module _ (limit : whole ≤ 48000000) where
            pub too_short : room < whole → allowed e end count identifier whole room ≡ refused 25 0
            unfolding max_length refuse
            too_short h = rest ∙ pass 2 0 _ (le-ltb _ _ limit) ∙ rw (lt-ltb _ _ h)

            pub passes : whole ≤ room → allowed e end count identifier whole room ≡ ok tt
            unfolding max_length refuse
            passes h = rest ∙ pass 2 0 _ (le-ltb _ _ limit) ∙ rw (le-ltb _ _ h)

-- and then the identifier as text
module _ (e : Edition) (end count : ℕ) (identifier : List ℕ) (whole room : ℕ) where
  pub barred : {number place : ℕ} → allowed e end count identifier whole room ≡ refused number place → permitted e end count identifier whole room ≡ refused number place
  barred h = halt _ h

  pub left : allowed e end count identifier whole room ≡ ok tt → permitted e end count identifier whole room ≡ text_at (end + 5) identifier
  left h = go_on _ h

module _ (place : ℕ) (identifier : List ℕ) where
  pub ill_formed : well_formed identifier < length identifier → text_at place identifier ≡ refused 27 (place + well_formed identifier)
  unfolding text_at refuse
  ill_formed h = rw (text_at, lt-ltb (well_formed identifier) (length identifier) h)

  pub is_text : length identifier ≤ well_formed identifier → text_at place identifier ≡ ok tt
  unfolding text_at refuse
  is_text h = rw (text_at, le-ltb (well_formed identifier) (length identifier) h)

pub ruleset cases = (not_known, too_many, empty, zero_within, too_long, too_short, passes, barred, left, ill_formed, is_text)
