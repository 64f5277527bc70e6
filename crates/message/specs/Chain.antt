-- Change request 13: relays in a chain, each of which gets what the one before it forwards.
-- Assumes nothing: these are definitions.
use Rattle.std.specs.Prelude.{ℕ, ◌<◌, ◌&&◌, ◌≡◌, List, [], ◌∷◌, ◌↔◌, T}
use Rattle.opmsg.specs.Flags.{bit, common, knows}
use Rattle.message.specs.Editions.{Accepts, Room, sent}
use Rattle.opmsg.specs.declared.Edition.{Edition}

-- a relay: its edition, and the output that it is lent
pub record Relay : Type 0 where
  pub edition : Edition
  pub out : List ℕ

-- it accepts a message, it has room for it, and the bytes after it are what it forwards
abbrev pub Accepting : Relay → List ℕ → Type 0
Accepting r s = Accepts r.edition s

abbrev pub HasRoom : Relay → List ℕ → Type 0
HasRoom r s = Room s r.out

abbrev pub after : Relay → List ℕ → List ℕ
after r s = sent r.edition s r.out

-- the bytes after the last relay of a chain
unfoldable pub through : List Relay → List ℕ → List ℕ
through [] s = s
through (r ∷ rs) s = through rs (after r s)

-- something holds of every relay of a chain
abbrev pub All : (Relay → Type 0) → List Relay → Type 0
All P [] = Unit {0}
All P (r ∷ rs) = P r × All P rs

-- something holds of every relay and what it gets
abbrev pub InTurn : (Relay → List ℕ → Type 0) → List Relay → List ℕ → Type 0
InTurn P [] s = Unit {0}
InTurn P (r ∷ rs) s = P r s × InTurn P rs (after r s)

-- an edition knows exactly what every relay of a chain knows
pub record KnowsShared (e : Edition) (rs : List Relay) : Type 0 where
  pub bits : (i : ℕ) → i < 32 → T (bit i e.bits) ↔ All (λ r. T (bit i r.edition.bits)) rs
  pub kinds : (kind : ℕ) → T (knows e kind) ↔ All (λ r. T (knows r.edition kind)) rs

-- the edition that knows what two both know
unfoldable pub both : Edition → Edition → Edition
both a b = record { bits = common 32 a.bits b.bits; sequences = a.sequences && b.sequences }

-- and what an edition and the relays behind it all know
unfoldable pub shared : Edition → List Relay → Edition
shared e [] = e
shared e (r ∷ rs) = shared (both e r.edition) rs

-- a chain of one relay or more, r and then rs
pub record Chain (r : Relay) (rs : List Relay) : Type 0 where
  -- "All of whose editions accept a message and have room": that all have room for the message is that each has room for what it gets,
  pub room : (s : List ℕ) → All (λ q. Accepting q s) (r ∷ rs)
      → All (λ q. HasRoom q s) (r ∷ rs) ↔ InTurn HasRoom (r ∷ rs) s
  -- and that all accept the message is that each accepts what it gets.
  pub accept : (s : List ℕ) → InTurn HasRoom (r ∷ rs) s
      → All (λ q. Accepting q s) (r ∷ rs) ↔ InTurn Accepting (r ∷ rs) s
  -- "One relay that knows exactly what every one of them knows": there is one,
  pub known : KnowsShared (shared r.edition rs) (r ∷ rs)
  -- and each such relay accepts the message, and the bytes after the last relay of the chain are its bytes.
  pub bytes : (one : Edition) (s out : List ℕ) → All (λ q. Accepting q s) (r ∷ rs) → InTurn HasRoom (r ∷ rs) s
      → KnowsShared one (r ∷ rs) → Room s out
      → Accepts one s × (through (r ∷ rs) s ≡ sent one s out)
