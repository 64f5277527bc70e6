-- What the code's answers on the sections make of a message: checks 10 to 24, and the view.
-- Assumes nothing.
use Prim.Native.Nat.{ℕ, ◌+◌, ◌-◌, ◌%◌, ◌^◌, ◌≤◌, ◌<◌}
use mathlib.Core.Path.{◌≡◌, sym, ap, ◌∙◌}
use mathlib.Core.List.{List}
use native.Mathlib.Omega.{arith}
use lib.ListN.{length, get_or, take, drop, length-take}
use lib.Seq.{get_or-drop}
use Rattle.wire.specs.Outcome.{ok, refused}
use Rattle.wire.specs.Bytes.{word, word_at}
use Rattle.wire.specs.Walk.{walk}
use Rattle.wire.proofs.Outcome.{go_on, halt}
use Rattle.wire.proofs.Walk.{walk_turns}
use Rattle.opmsg.specs.Flags.{checksummed}
use Rattle.opmsg.specs.Layout.{max_length, message_length, flag_word, checksum_size, sections_end, section_bytes}
use Rattle.opmsg.specs.Sections.{Parts, nothing, section_at}
use Rattle.opmsg.specs.View.{view_of}
use Rattle.opmsg.specs.Read.{header, flagged, parts, distinct_names, content, read}
use Rattle.opmsg.specs.declared.Edition.{Edition}
use Rattle.opmsg.proofs.Limits.{max_length_small}
use Rattle.opmsg.proofs.Accepted.{headed, flags_passed}
use Rattle.opmsg.proofs.SectionRead.{section_steady}

-- what is known of a message s whose header and flag word were accepted
pub record FlagsAccepted (s : List ℕ) : Type 0 where
  pub limit : message_length s ≤ max_length
  pub whole : message_length s ≤ length s
  pub ended : 20 + checksum_size (flag_word s) ≤ message_length s

module _ (e : Edition) (s : List ℕ) {u v : Unit {0}} (h : header s ≡ ok u) where
  pub refused_flags : {number place : ℕ} → flagged e s ≡ refused number place → read e s ≡ refused number place
  unfolding read
  refused_flags f = go_on _ h ∙ halt _ f

  module _ (f : flagged e s ≡ ok v) where
    pub ready : FlagsAccepted s
    ready = let k = headed h in record { limit = k.limit; whole = k.whole; ended = (flags_passed f).ended }

    pub rest : read e s ≡ content e s
    unfolding read
    rest = go_on _ h ∙ go_on _ f

-- the first byte of the flag word tells whether there is a checksum
first_byte : (s : List ℕ) → checksum_size (get_or s 16 0) ≡ checksum_size (flag_word s)
unfolding word_at word checksum_size checksummed
first_byte s = let e : get_or s 16 0 % 2 ≡ word (drop 16 s) % 2 = omega (arith, get_or-drop 16 s 0 0) in rw (checksum_size, e)

-- its length and its checksum's size, as code reads them
module _ {s : List ℕ} (r : FlagsAccepted s) {n k : ℕ} (n_is : n ≡ word s) (k_is : k ≡ checksum_size (get_or s 16 0)) where
  pub size : k ≡ checksum_size (word_at 16 s)
  size = k_is ∙ first_byte s

  pub room : 20 + k ≤ n
  unfolding word_at
  room = omega (arith, size, n_is, r.ended)

  pub near : (n ≤ length s) × (n < 2 ^ 30)
  unfolding word_at
  near = (omega (arith, n_is, r.whole), omega (arith, n_is, r.limit, max_length_small))

  -- the sections' bytes
  pub few_bytes : 20 + length (take (n - k - 20) (drop 20 s)) ≤ n
  few_bytes = let l : length (take (n - k - 20) (drop 20 s)) ≤ n - k - 20 = rw length-take (omega arith) in omega (arith, l, room)

-- s has n bytes, of which k are the checksum's
module _ (e : Edition) (s : List ℕ) (n k : ℕ) (n_is : n ≡ word s) (k_is : k ≡ checksum_size (word_at 16 s)) where
  end_is : n - k ≡ sections_end s
  unfolding sections_end word_at
  end_is = rw (n_is, k_is)

  bytes_are : take (n - k - 20) (drop 20 s) ≡ section_bytes s
  unfolding section_bytes
  bytes_are = rw end_is

  parts_are : parts e s ≡ walk (section_at e) (length (take (n - k - 20) (drop 20 s))) 20 (take (n - k - 20) (drop 20 s)) nothing
  unfolding parts
  parts_are =
      let turns : length (take (n - k - 20) (drop 20 s)) ≤ sections_end s = rw length-take (omega (arith, end_is)) in
      ap (λ (xs : List ℕ). walk (section_at e) (sections_end s) 20 xs nothing) (sym bytes_are) ∙ walk_turns (section_at e) (section_steady e).advances _ _ 20 _ nothing turns (omega arith)

  pub refused_sections : {number place : ℕ} → walk (section_at e) (length (take (n - k - 20) (drop 20 s))) 20 (take (n - k - 20) (drop 20 s)) nothing ≡ refused number place → content e s ≡ refused number place
  unfolding content
  refused_sections h = halt _ (parts_are ∙ h)

  module _ (p : Parts) (h : walk (section_at e) (length (take (n - k - 20) (drop 20 s))) 20 (take (n - k - 20) (drop 20 s)) nothing ≡ ok p) where
    pub refused_names : {number place : ℕ} → distinct_names (n - k) (take (n - k - 20) (drop 20 s)) p.sections ≡ refused number place → content e s ≡ refused number place
    unfolding content
    refused_names d = go_on _ (parts_are ∙ h) ∙ halt _ (rw (bytes_are, end_is) at d)

    pub shown : distinct_names (n - k) (take (n - k - 20) (drop 20 s)) p.sections ≡ ok tt → content e s ≡ ok (view_of e s p)
    unfolding content
    shown d = go_on _ (parts_are ∙ h) ∙ go_on _ (rw (bytes_are, end_is) at d)
