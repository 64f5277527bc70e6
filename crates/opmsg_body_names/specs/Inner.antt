-- What the names of elements are, and the marks that keep most of them from being compared.
-- Assumes nothing: these are definitions.
use Rattle.std.specs.Prelude.{ℕ, ◌+◌, ◌*◌, ◌/◌, ◌%◌, ◌^◌, List, ◌≡◌, Bool, true, eqb, Result, Ok, Err}
use lib.ListN.{drop, get_or, set}
use Rattle.std.specs.Int.Bits.{bit_and, bit_or}
use Rattle.wire.specs.Outcome.{Outcome, ok, refused}
use Rattle.wire.specs.Bytes.{word}
use Rattle.refusal.specs.declared.Refusal.{Refusal}
use Rattle.refusal.specs.Told.{number}
use Rattle.opmsg.specs.Names.{among}
use Rattle.opmsg_element_names.specs.Inner.{last_word}

-- where the mark of a text stands: by its first bytes and its last ones
abbrev pub spread : ℕ → ℕ → ℕ
spread first last = (first + 3 * last) * 0x9E3779B / 0x400000 % 2048

unfoldable pub slot_of : List ℕ → ℕ
slot_of t = spread (word t) (last_word t)

-- a slot's bit in marks, of which each word has 64, is set
unfoldable pub marked : List ℕ → ℕ → Bool
marked marks slot = eqb (bit_and (get_or marks (slot / 64) 0) (2 ^ (slot % 64))) (2 ^ (slot % 64))

-- marks with that bit
unfoldable pub marking : List ℕ → ℕ → List ℕ
marking marks slot = set marks (slot / 64) (bit_or (get_or marks (slot / 64) 0) (2 ^ (slot % 64)))

-- marks of texts: a text without a mark at its slot is none of them
pub record Marks (ts : List (List ℕ)) (marks : List ℕ) : Type 0 where
  pub size : lib.ListN.length marks ≡ 32
  pub shows : (t : List ℕ) → among ts t ≡ true → marked marks (slot_of t) ≡ true

-- what check 23 says of names, apart from whether documents are among the elements
abbrev pub names_told : Result Bool Refusal → Outcome (Unit {0})
names_told (Ok nested) = ok tt
names_told (Err r) = refused (number r.reason) r.place
