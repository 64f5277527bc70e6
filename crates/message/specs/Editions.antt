-- What demand 3 speaks of: what an edition knows of a message, and what a relay forwards of it.
-- Assumes nothing: these are definitions.
use Rattle.std.specs.Prelude.{ℕ, ◌<◌, ◌≤◌, Bool, true, ◌≡◌, List, [], ◌∷◌, ◌++◌, length, take, T}
use Rattle.wire.specs.Outcome.{ok}
use Rattle.opmsg.specs.Flags.{bit, knows}
use Rattle.opmsg.specs.Layout.{message_length, flag_word}
use Rattle.opmsg.specs.Read.{read}
use Rattle.message.specs.Message.{output}
use Rattle.message.specs.Forward.{forward}
use Rattle.opmsg.specs.declared.Edition.{Edition}
use Rattle.opmsg.specs.declared.Section.{Section}
use Rattle.opmsg.specs.declared.Section.TheVariants.{None, Body, Sequence}
use Rattle.opmsg.specs.declared.View.{View}

-- the one edition knows every flag bit and every section kind that the other knows
pub record Newer (new old : Edition) : Type 0 where
  pub bits : (i : ℕ) → i < 32 → T (bit i old.bits) → T (bit i new.bits)
  pub kinds : (kind : ℕ) → T (knows old kind) → T (knows new kind)

-- a relay accepts a message
abbrev pub Accepts : Edition → List ℕ → Type 0
Accepts e s = (v : View) × (read e s ≡ ok v)

-- it knows every bit below n that is set in the message's flag word: below 16 for the required ones, below 32 for all
abbrev pub KnowsBits : ℕ → Edition → List ℕ → Type 0
KnowsBits n e s = (i : ℕ) → i < n → T (bit i (flag_word s)) → T (bit i e.bits)

-- it knows the kind of a section; an entry that says none has no kind to be known
unfoldable pub knows_kind : Edition → Section → Bool
knows_kind e None = true
knows_kind e (Body range) = knows e 0
knows_kind e (Sequence identifier documents number) = knows e 1

-- it knows the kind of every section
abbrev pub KnowsKinds : Edition → List Section → Type 0
KnowsKinds e [] = Unit {0}
KnowsKinds e (q ∷ qs) = T (knows_kind e q) × KnowsKinds e qs

-- q is the first of the sections whose kind the edition doesn't know
pub record FirstUnknown (e : Edition) (sections : List Section) (q : Section) : Type 0 where
  pub before : List Section
  pub after : List Section
  pub split : sections ≡ before ++ (q ∷ after)
  pub known : KnowsKinds e before
  pub unknown : ¬ T (knows_kind e q)

-- the view with another flag word
unfoldable pub with_flags : View → ℕ → View
with_flags v flags = record {
  length = v.length;
  request_id = v.request_id;
  response_to = v.response_to;
  flags = flags;
  entries = v.entries;
  elements = v.elements;
}

-- an output with room for a message
abbrev pub Room : List ℕ → List ℕ → Type 0
Room s out = message_length s ≤ length out

-- what the relay forwards of the message, given an output
unfoldable pub sent : Edition → List ℕ → List ℕ → List ℕ
sent e s out = take (message_length s) (output (forward e s (length out)) out)
