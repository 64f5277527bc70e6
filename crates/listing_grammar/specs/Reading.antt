-- What it is to read exactly the listings of `Grammar.antt`, and to refuse others at the first bad or missing line.
-- `stored_listings` of `proofs/StoredListings.antt` proves it of `read_listing`. Assumes nothing: these are definitions.
use Rattle.std.specs.Prelude.{ℕ, zero, suc, ◌^◌, ◌<◌, ◌≡◌, ◌↔◌, length}
use mathlib.Core.List.{List, [], ◌∷◌, ◌++◌, Memᴰ}
use Rattle.wire.specs.Outcome.{ok, refused}
use Rattle.wire.specs.Bytes.{Bytes}
use Rattle.listing_lines.specs.Fields.{newline}
use Rattle.listing.specs.Listing.{entries, messages_of, listing}
use Rattle.listing_stored.specs.Stored.{Told, read_listing}
use Rattle.listing_grammar.specs.Grammar.{Listing}

-- k lines, each ended by its newline
pub data Lines : (k : ℕ) → List ℕ → Type 0 where
  none : Lines zero []
  more : {k : ℕ} {xs ys : List ℕ} → ¬ (Memᴰ newline xs) → Lines k ys → Lines (suc k) (xs ++ newline ∷ ys)

-- the first k lines of s are there, and a listing may begin so
pub record Good (k : ℕ) (s : List ℕ) : Type 0 where
  pub lines : List ℕ
  pub rest : List ℕ
  pub split : s ≡ lines ++ rest
  pub number : Lines k lines
  pub version : ℕ
  pub messages : ℕ
  pub other : List ℕ
  pub begins : Listing version messages (lines ++ other)

pub record StoredListings : Type 0 where
  -- the reader accepts exactly the listings, and answers their version and messages
  pub accepted : (s : List ℕ) (t : Told) → (read_listing s ≡ ok t) ↔ Listing t.version t.messages s
  -- it refuses with 38, and the number of the first bad or missing line, from 1: the lines before it are good, and it is not
  pub refuses : (s : List ℕ) (k : ℕ) → length s < 2 ^ 64
      → (read_listing s ≡ refused 38 (suc k)) ↔ (((version messages : ℕ) → ¬ Listing version messages s) × Good k s × ¬ Good (suc k) s)
  -- whatever our own program lists is a listing of version 2, with the messages that it read or passed over
  pub own : (s : List ℕ) → Bytes s → length s < 2 ^ 64
      → read_listing (listing s) ≡ ok (record { version = 2; messages = messages_of (entries s) })
