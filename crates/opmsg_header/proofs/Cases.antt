-- What checks 1 to 6 answer, case by case, as code tells the cases apart.
-- Assumes nothing.
use Rattle.std.proofs.Common.{◌≡◌, ℕ, zero, suc, ◌+◌, ◌<◌, ◌≤◌, ◌-◌, List, [], ◌∷◌, length, take, drop, refl, sym, ap, ◌∙◌, true, false, arith, Bool, ◌⊎◌, inl, inr}
use Rattle.std.specs.Prelude.{◌≢◌, ltb, eqb, not, ◌||◌}
use borrow.Author.Tests.{lt-ltb, le-ltb, ne_eqb}
use Rattle.wire.specs.Outcome.{Outcome, ok, refused, refuse, ◌>>=◌}
use Rattle.wire.specs.Bytes.{word, word_at, under, one_of}
use Rattle.wire.proofs.Bytes.{not_under}
use Rattle.wire.proofs.Outcome.{stop, pass, either}
use Rattle.wire.proofs.Parts.{rest_part}
use Rattle.opmsg.specs.Layout.{max_length}
use Rattle.opmsg.specs.Read.{header}

-- ---- checks 4 to 6, of the opcode

abbrev older : List ℕ
older = 1 ∷ 2001 ∷ 2002 ∷ 2004 ∷ 2005 ∷ 2006 ∷ 2007 ∷ []

unfoldable coded : ℕ → Outcome (Unit {0})
coded code = do
  _ ← refuse 4 12 (one_of older code)
  _ ← refuse 5 12 (eqb code 2012)
  refuse 6 12 (not (eqb code 2013))

-- the older opcodes, as ranges
abbrev Older : ℕ → Type 0
Older code = (code ≡ 1) ⊎ (code ≡ 2001) ⊎ (code ≡ 2002) ⊎ ((2004 ≤ code) × (code < 2008))

run : (n : ℕ) → n < 4 → one_of older (2004 + n) ≡ true
unfolding one_of
run zero h = refl
run (suc zero) h = refl
run (suc (suc zero)) h = refl
run (suc (suc (suc zero))) h = refl
run (suc (suc (suc (suc n)))) h = absurd (omega arith)

listed : (code : ℕ) → Older code → one_of older code ≡ true
unfolding one_of
listed code (inl e) = rw e
listed code (inr (inl e)) = rw e
listed code (inr (inr (inl e))) = rw e
listed code (inr (inr (inr h))) = let e : code ≡ 2004 + (code - 2004) = omega arith in rw e (run (code - 2004) (omega arith))

unlisted : (code : ℕ) → code ≢ 1 → code ≢ 2001 → code ≢ 2002 → code ≢ 2004 → code ≢ 2005 → code ≢ 2006 → code ≢ 2007 → code ≢ 2012 → code ≢ 2013 → coded code ≡ refused 6 12
unfolding coded one_of refuse ◌>>=◌
unlisted code a b c d e f g h i =
    rw (coded, one_of, ne_eqb code 1 a, ne_eqb code 2001 b, ne_eqb code 2002 c, ne_eqb code 2004 d, ne_eqb code 2005 e, ne_eqb code 2006 f, ne_eqb code 2007 g, ne_eqb code 2012 h, ne_eqb code 2013 i)

-- ---- the message at the start of s

module _ (s : List ℕ) where
  pub short : length s < 16 → header s ≡ refused 1 0
  unfolding header
  short h = stop 1 0 _ (lt-ltb _ _ h)

  pub below : 16 ≤ length s → word s < 16 → header s ≡ refused 2 0
  unfolding header word_at under
  below h k = pass 1 0 _ (le-ltb _ _ h) ∙ stop 2 0 _ (rw (under, lt-ltb (word s) 16 k))

  pub above : 16 ≤ length s → 48000000 < word s → header s ≡ refused 2 0
  unfolding header word_at max_length refuse ◌>>=◌
  above h k =
      let t : under 16 (word s) || ltb 48000000 (word s) ≡ true = rw (lt-ltb 48000000 (word s) k) (or_true (under 16 (word s))) in
      pass 1 0 _ (le-ltb _ _ h) ∙ either 2 0 (under 16 (word s)) (ltb 48000000 (word s)) _ ∙ stop 2 0 _ t
    where
      or_true : (b : Bool) → b || true ≡ true
      or_true true = refl
      or_true false = refl

  module _ (least : 16 ≤ word s) (limit : word s ≤ 48000000) where
    pub cut : 16 ≤ length s → length s < word s → header s ≡ refused 3 0
    unfolding header word_at max_length
    cut h k =
        pass 1 0 _ (le-ltb _ _ h) ∙ pass 2 0 _ (not_under 16 (word s) least (omega arith)) ∙ pass 2 0 _ (le-ltb 48000000 (word s) limit) ∙ stop 3 0 _ (lt-ltb _ _ k)

    -- a whole one: its opcode decides
    module _ (fits : word s ≤ length s) (code : ℕ) (read : code ≡ word (take (length s - 12) (drop 12 s))) where
      whole : header s ≡ coded code
      unfolding header word_at coded max_length
      whole =
          pass 1 0 _ (le-ltb _ _ (omega arith)) ∙ pass 2 0 _ (not_under 16 (word s) least (omega arith)) ∙ pass 2 0 _ (le-ltb 48000000 (word s) limit) ∙ pass 3 0 _ (le-ltb _ _ fits)
          ∙ ap coded (sym (ap word (rest_part 12 s)) ∙ sym read)

      pub older_opcode : Older code → header s ≡ refused 4 12
      unfolding coded
      older_opcode h = whole ∙ stop 4 12 _ (listed code h)

      pub compressed : code ≡ 2012 → header s ≡ refused 5 12
      unfolding coded one_of refuse ◌>>=◌
      compressed e = whole ∙ ap coded e

      pub accepted : code ≡ 2013 → header s ≡ ok tt
      unfolding coded one_of refuse ◌>>=◌
      accepted e = whole ∙ ap coded e

      pub unknown : code ≢ 1 → code ≢ 2001 → code ≢ 2002 → code ≢ 2004 → code ≢ 2005 → code ≢ 2006 → code ≢ 2007 → code ≢ 2012 → code ≢ 2013 → header s ≡ refused 6 12
      unknown a b c d e f g h i = whole ∙ unlisted code a b c d e f g h i

pub ruleset cases = (short, below, above, cut, older_opcode, compressed, accepted, unknown)
