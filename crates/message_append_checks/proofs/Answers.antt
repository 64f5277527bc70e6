-- Append by the numbers that code keeps: what a reading tells of the message, and what is left to decide where only names are left to check.
-- Assumes nothing.
use Prim.Native.Nat.{ℕ, ◌+◌, ◌-◌, ◌^◌, ◌<◌, ◌≤◌}
use mathlib.Core.Bool.{Bool, true, false}
use mathlib.Core.Path.{◌≡◌, refl, sym, ◌∙◌}
use mathlib.Core.List.{List, ◌++◌}
use native.Mathlib.Omega.{arith}
use lib.ListN.{length, take, drop}
use Rattle.wire.specs.Outcome.{Outcome, ok, refused, ◌>>=◌}
use Rattle.wire.specs.Walk.{walk}
use Rattle.wire.proofs.Outcome.{went, go_on, halt}
use Rattle.utf8.specs.Text.{text_at}
use Rattle.opmsg.specs.Layout.{checksum_size, sections_end, section_bytes}
use Rattle.opmsg.specs.Sections.{max_sequences, max_sections, next_document}
use Rattle.opmsg.specs.Names.{part}
use Rattle.opmsg.specs.View.{sequence_count}
use Rattle.opmsg.specs.Read.{read}
use Rattle.opmsg.specs.Inner.{clashes, Shows, Filled}
use Rattle.opmsg.specs.declared.Edition.{Edition}
use Rattle.opmsg.specs.declared.Section.{Section}
use Rattle.opmsg.specs.declared.View.{View}
use Rattle.opmsg.proofs.Limits.{max_length_small, checksum_small}
use Rattle.opmsg.proofs.Accepted.{reads}
use Rattle.message.specs.Append.{sequence_bytes, appended, append}
use Rattle.message.proofs.Message.{stated_end, stated_length}
use Rattle.message.proofs.Forwarded.{view_length}
use Rattle.message_append_checks.specs.Inner.{allowed, permitted, shown_body, grown, Ready}
use Rattle.message_append_checks.proofs.Held.{Held, accepted_held}
use Rattle.message_append_checks.proofs.Section.{run_at}
use Rattle.message_append_checks.proofs.Appending.{Allowed, allows, end_is, shows, append_barred, append_documents, append_taken, append_grown}

-- the checksum is in the message
pub checksum_within : (e : Edition) (s : List ℕ) (v : View) → read e s ≡ ok v → checksum_size v.flags ≤ v.length
checksum_within e s v h = omega (arith, checksum_small v.flags, view_length e s v h, (reads h).sound.least)

-- the checks are passed, and the identifier is text
pub permits : (e : Edition) (end count : ℕ) (name : List ℕ) (whole room : ℕ) → permitted e end count name whole room ≡ ok tt
    → (allowed e end count name whole room ≡ ok tt) × (text_at (end + 5) name ≡ ok tt)
permits e end count name whole room c = let w = went _ _ c in (w.1, w.2)

-- a message that is read; `size` bytes are its checksum's, and it has `count` sequences
module _ (e : Edition) (s : List ℕ) (v : View) (h : read e s ≡ ok v) (size : ℕ) (is : size ≡ checksum_size v.flags) (count : ℕ) (many : count ≡ sequence_count v) where
  end_of : v.length - size ≡ sections_end s
  end_of = rw is (end_is e s v h)

  module _ (name documents : List ℕ) (room : ℕ) where
    checks_refuse : {number place : ℕ} → allowed e (v.length - size) count name (v.length + (length name + 6 + length documents)) room ≡ refused number place
        → append e s name documents room ≡ refused number place
    checks_refuse c = append_barred e s v h name documents room (rw (end_of, many) at c)

    text_refuse : {number place : ℕ} → allowed e (v.length - size) count name (v.length + (length name + 6 + length documents)) room ≡ ok tt
        → text_at (v.length - size + 5) name ≡ refused number place → append e s name documents room ≡ refused number place
    text_refuse c t = append_documents e s v h name documents room (rw (end_of, many) at c) (halt _ (rw end_of at t))

    -- the checks, and then the identifier as text
    pub before_refuse : {number place : ℕ} → permitted e (v.length - size) count name (v.length + (length name + 6 + length documents)) room ≡ refused number place
        → append e s name documents room ≡ refused number place
    unfolding ◌>>=◌
    before_refuse {number} {place} = go (allowed e (v.length - size) count name (v.length + (length name + 6 + length documents)) room) refl
      where
        go : (o : Outcome (Unit {0})) → allowed e (v.length - size) count name (v.length + (length name + 6 + length documents)) room ≡ o
            → (o >>= λ _. text_at (v.length - size + 5) name) ≡ refused number place → append e s name documents room ≡ refused number place
        go (ok tt) c t = text_refuse c t
        go (refused m q) c t = checks_refuse (c ∙ t)

    pub documents_refuse : {number place : ℕ} → permitted e (v.length - size) count name (v.length + (length name + 6 + length documents)) room ≡ ok tt
        → walk next_document (length documents) (v.length - size + (length name + 6)) documents (record { documents = 0; elements = v.elements }) ≡ refused number place
        → append e s name documents room ≡ refused number place
    documents_refuse c w = let p = permits _ _ _ _ _ _ c in append_documents e s v h name documents room (rw (end_of, many) at p.0) (go_on _ (rw end_of at p.1) ∙ rw end_of at w)

    pub documents_ready : {number elements : ℕ} → permitted e (v.length - size) count name (v.length + (length name + 6 + length documents)) room ≡ ok tt
        → walk next_document (length documents) (v.length - size + (length name + 6)) documents (record { documents = 0; elements = v.elements })
        ≡ ok (record { documents = number; elements = elements })
        → Ready e s name documents v (v.length - size) (count + 1) number elements room
    documents_ready c w = record { ended = end_of; shown = h; behind = rw many; passed = rw many at c; counted = w }

module _ {e : Edition} {s name documents : List ℕ} {v : View} {end used number elements room : ℕ} (k : Ready e s name documents v end used number elements room) where
  abbrev h : read e s ≡ ok v
  h = k.shown

  pub ready_allowed : Allowed e (sequence_count v) name (v.length + (length name + 6 + length documents)) room
  ready_allowed = allows e end (sequence_count v) name (v.length + (length name + 6 + length documents)) room (permits _ _ _ _ _ _ k.passed).0

  pub ready_low : 20 ≤ end
  ready_low = omega (arith, k.ended, stated_end s (reads h).sound)

  pub ready_inside : end ≤ length s
  ready_inside = omega (arith, k.ended, stated_end s (reads h).sound, stated_length s (reads h).sound, (reads h).sound.whole)

  pub ready_length : v.length ≡ end + checksum_size v.flags
  ready_length = omega (arith, k.ended, end_is e s v h, checksum_within e s v h)

  pub ready_small : v.length + (length name + 6 + length documents) < 2 ^ 30
  ready_small = omega (arith, ready_allowed.limit, max_length_small)

  bytes : take (end - 20) (drop 20 s) ≡ section_bytes s
  unfolding section_bytes
  bytes = rw k.ended

  held : Held (section_bytes s) (length (section_bytes s)) (reads h).sections.sections
  held = accepted_held e s v h

  pub ready_filled : Filled (part (take (end - 20) (drop 20 s)) ((shown_body v).start + 4) ((shown_body v).length - 5))
  ready_filled = rw bytes (rw ((shows e s v h).start_is, (shows e s v h).size_is) at held.filled)

  -- there is an entry left
  pub ready_entry : used < max_sections
  unfolding max_sequences max_sections
  ready_entry = omega (arith, k.behind, ready_allowed.few)

  -- the new section is read, but for its names
  counted : run_at name documents (sections_end s) v.elements ≡ ok (record { documents = number; elements = elements })
  counted = go_on _ (rw k.ended at (permits _ _ _ _ _ _ k.passed).1) ∙ rw k.ended at k.counted

  -- the answer of the search for the identifier
  module _ (t : Bool) (is : (qs : List Section) (sequences : ℕ) → Shows qs (shown_body v).start (shown_body v).length v.entries used sequences
      → t ≡ clashes (take (end - 20) (drop 20 s)) qs name) where
    found : t ≡ clashes (section_bytes s) (reads h).sections.sections name
    found = rw bytes at (is (reads h).sections.sections (sequence_count v) (rw (← k.behind) at (shows e s v h)))

    pub ready_taken : t ≡ true → append e s name documents room ≡ refused 24 (end + 5)
    ready_taken i = rw k.ended (append_taken e s v h name documents room (rw k.ended at (permits _ _ _ _ _ _ k.passed).0) _ counted (sym found ∙ i))

    pub ready_grown : t ≡ false → append e s name documents room
        ≡ ok (record { view = grown v end (length name) (length documents) number elements; bytes = appended s v.flags (take (end - 20) (drop 20 s) ++ sequence_bytes name documents) })
    ready_grown i = rw (bytes, k.ended) (append_grown e s v h name documents room (rw k.ended at (permits _ _ _ _ _ _ k.passed).0) _ counted (sym found ∙ i))
