-- What holds of moving a body: the new message is always accepted, with this view; a body that stays is forwarded; and one moved again is moved at once.
-- Assumes nothing: these are definitions.
use Rattle.std.specs.Prelude.{ℕ, suc, ◌+◌, ◌≤◌, ◌≡◌, List, [], ◌∷◌}
use Rattle.wire.specs.Outcome.{ok}
use Rattle.wire.specs.Bytes.{Bytes}
use Rattle.opmsg.specs.Sections.{body_at, sequence_at, section_size}
use Rattle.opmsg.specs.View.{padded, sections_of, sequence_count}
use Rattle.opmsg.specs.Read.{read}
use Rattle.message.specs.Message.{Written}
use Rattle.message.specs.Forward.{forward}
use Rattle.message.specs.Move.{reordered, moved, move}
use Rattle.opmsg.specs.declared.Edition.{Edition}
use Rattle.opmsg.specs.declared.Section.{Section}
use Rattle.opmsg.specs.declared.Section.TheVariants.{None, Body, Sequence}
use Rattle.opmsg.specs.declared.View.{View}

-- how many sequences stand before the body
unfoldable pub sequences_before : List Section → ℕ
sequences_before [] = 0
sequences_before (None ∷ qs) = sequences_before qs
sequences_before (Body range ∷ qs) = 0
sequences_before (Sequence identifier documents number ∷ qs) = suc (sequences_before qs)

-- a section moved to a place
unfoldable pub placed : ℕ → Section → Section
placed at None = None
placed at (Body range) = body_at at range.length
placed at (Sequence identifier documents number) = sequence_at at identifier.length documents.length number

-- sections one behind the other, the first at a place
unfoldable pub placed_from : ℕ → List Section → List Section
placed_from at [] = []
placed_from at (q ∷ qs) = placed at q ∷ placed_from (at + section_size q) qs

-- the view with its sections in another order
unfoldable pub moved_view : View → (behind : ℕ) → View
moved_view v behind = record {
  length = v.length;
  request_id = v.request_id;
  response_to = v.response_to;
  flags = v.flags;
  entries = padded (placed_from 20 (reordered behind (sections_of v)));
  elements = v.elements;
}

pub record Moving : Type 0 where
  -- behind as many sequences as there are or fewer, reading accepts the new message, so that the call's refusals are reading's, 28 and 25 alone
  pub shows : (e : Edition) (s : List ℕ) (v : View) (behind : ℕ) → Bytes s → read e s ≡ ok v → behind ≤ sequence_count v
      → read e (moved s v behind) ≡ ok (moved_view v behind)
  -- moved to where it stands, the body stays: the call is Forward
  pub stays : (e : Edition) (s : List ℕ) (v : View) (room : ℕ) → Bytes s → read e s ≡ ok v
      → move e s (sequences_before (sections_of v)) room ≡ forward e s room
  -- a body moved behind one number of sequences and then behind another is moved behind the other at once
  pub again : (e : Edition) (s : List ℕ) (w : Written) (behind room : ℕ) → Bytes s → move e s behind room ≡ ok w
      → (other space : ℕ) → move e w.bytes other space ≡ move e s other space
