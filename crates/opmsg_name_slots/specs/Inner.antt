-- Slots that hold places: each holds zero, or one more than the place of a name, not far behind where the name belongs.
-- Assumes nothing: these are definitions.
use Rattle.std.specs.Prelude.{ℕ, ◌+◌, ◌-◌, ◌*◌, ◌/◌, ◌%◌, ◌<◌, ◌≤◌, List, ◌≡◌, length, get_or, drop, Option, None, Some}
use Rattle.std.specs.Int.Bits.{bit_and}
use Rattle.wire.specs.Bytes.{word}
use Rattle.opmsg_element_names.specs.Inner.{text_at, last_word, First}
use Rattle.opmsg_name_slots.specs.declared.Probe.{Probe}
use Rattle.opmsg_name_slots.specs.declared.Probe.TheVariants.{Known, Open, Crowd}

-- how far on from their own slot names may stand
abbrev pub reach : ℕ
reach = 32

-- a number made of a text: of its length, its first bytes, its last and its middle ones
abbrev pub mixed : (n first last middle : ℕ) → ℕ
mixed n first last middle = (n % 256 + first + 3 * last + 5 * middle) * 0x9E3779B / 0x400000

unfoldable pub hash_of : List ℕ → ℕ
hash_of t = mixed (length t) (word t) (last_word t) (word (drop (length t / 2) t))

-- the slot where a text belongs, of so many
unfoldable pub home_of : (slots : ℕ) → List ℕ → ℕ
home_of slots t = bit_and (hash_of t) (slots - reach - 1)

abbrev pub held : List ℕ → List ℕ → ℕ → List ℕ
held xs slots j = text_at xs (get_or slots j 0 - 1)

-- slots that hold nothing
abbrev pub Blank : List ℕ → Type 0
Blank slots = (j : ℕ) → get_or slots j 0 ≡ 0

-- a free slot for a text, and what stands before it
pub record Free (xs slots text : List ℕ) (start j : ℕ) : Type 0 where
  pub from : start ≤ j
  pub below : j < length slots
  pub free : get_or slots j 0 ≡ 0
  pub full : (l : ℕ) → start ≤ l → l < j → 0 < get_or slots l 0
  pub other : (l : ℕ) → start ≤ l → l < j → text ≡ held xs slots l → ⊥

-- a slot that holds a text
pub record SlotHolds (xs slots text : List ℕ) : Type 0 where
  pub at : ℕ
  pub full : 0 < get_or slots at 0
  pub same : text ≡ held xs slots at

abbrev pub Probed : List ℕ → List ℕ → List ℕ → ℕ → Probe → Type 0
Probed xs slots text start Known = SlotHolds xs slots text
Probed xs slots text start (Open j) = Free xs slots text start j
Probed xs slots text start Crowd = Unit {0}

-- what comes of slots: the answer, or none where they are crowded
abbrev pub Attempt : List ℕ → Option ℕ → Type 0
Attempt xs (Some p) = First xs p
Attempt xs None = Unit {0}
