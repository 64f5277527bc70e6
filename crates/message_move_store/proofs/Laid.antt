-- Sections of a message that are stored one behind the other, and the message that they make.
-- Assumes nothing.
use Prim.Native.Nat.{ℕ, ◌+◌, ◌≤◌, ◌<◌}
use mathlib.Core.Path.{◌≡◌, refl, sym, ap, ◌∙◌}
use mathlib.Core.List.{List, [], ◌∷◌, ◌++◌, map, flat_map, append_assoc, append-nil}
use native.Mathlib.Omega.{arith}
use lib.ListN.{length, take, drop, length-append, take-append-drop}
use lib.Seq.{length-take-le, take_at}
use Rattle.std.proofs.lemmas.List.{take_all}
use Rattle.wire.specs.Bytes.{le32, put}
use Rattle.opmsg.specs.Layout.{checksum_size}
use Rattle.opmsg.specs.Inner.{first_sections}
use Rattle.opmsg.specs.declared.Entry.{Entry}
use Rattle.opmsg.proofs.Entries.{said_at, first_split, first_next}
use Rattle.message.specs.Message.{checksum, message}
use Rattle.message.specs.Move.{section_in}
use Rattle.message.proofs.Tiles.{flat_append}
use Rattle.message_seal.specs.Inner.{overwritten}
use Rattle.message_move_store.specs.Inner.{laid}
use Rattle.message_seal.proofs.Stores.{Stored, stores_none, stored_length, stores, stores_over, sealed}

-- the bytes of the sections of s that the first i entries say
abbrev pub laid_by : List ℕ → List Entry → ℕ → List ℕ
laid_by s entries i = laid s (take i entries)

-- those that all entries say
pub laid_by_all : (s : List ℕ) (entries : List Entry) (i : ℕ) → length entries ≤ i → laid_by s entries i ≡ laid s entries
laid_by_all s entries i h = ap (laid s) (take_all i entries h)

module _ (s : List ℕ) (entries : List Entry) (i : ℕ) where
  pub laid_next : i < length entries → laid_by s entries (i + 1) ≡ laid_by s entries i ++ section_in s (said_at entries i)
  unfolding flat_map
  laid_next h =
      ap (flat_map (section_in s)) (first_next entries i h) ∙ flat_append (section_in s) (first_sections i entries) (said_at entries i ∷ [])
      ∙ ap (λ (l : List ℕ). laid_by s entries i ++ l) (append-nil (section_in s (said_at entries i)))

  pub laid_within : (n : ℕ) → i ≤ n → length (laid_by s entries i) ≤ length (laid_by s entries n)
  laid_within n h =
      let rest = map (λ (x : Entry). x.section) (drop i (take n entries)) in
      let all = ap (flat_map (section_in s)) (first_split entries i n h) ∙ flat_append (section_in s) (first_sections i entries) rest in
      omega (arith, ap length all, length-append (laid_by s entries i) (flat_map (section_in s) rest))

-- ---- in code: the sections of the first i entries are stored behind the 20 bytes that stood there

abbrev pub Laid : List ℕ → List Entry → (i at : ℕ) → (old now : List ℕ) → Type 0
Laid s entries i at old now = (at ≡ 20 + length (laid_by s entries i)) × Stored (take 20 old ++ laid_by s entries i) old now

module _ (s : List ℕ) (entries : List Entry) (old : List ℕ) (low : 20 ≤ length old) where
  pub lays_none : Laid s entries 0 20 old old
  unfolding flat_map
  lays_none = (refl, rw (append-nil (take 20 old), length-take-le 20 old low) (sym (take-append-drop 20 old)))

  front_length : (i : ℕ) → length (take 20 old ++ laid_by s entries i) ≡ 20 + length (laid_by s entries i)
  front_length i = length-append (take 20 old) (laid_by s entries i) ∙ rw (length-take-le 20 old low)

  module _ (i at : ℕ) (now : List ℕ) (k : Laid s entries i at old now) where
    pub laid_length : 20 + length (laid_by s entries i) ≤ length old → length now ≡ length old
    laid_length h = stored_length (take 20 old ++ laid_by s entries i) old now (omega (arith, front_length i)) k.1

    pub lays_next : i < length entries → 20 + length (laid_by s entries (i + 1)) ≤ length old → (x : List ℕ) → x ≡ section_in s (said_at entries i)
        → Laid s entries (i + 1) (at + length x) old (put at x now)
    lays_next h fits x is =
        let more : laid_by s entries (i + 1) ≡ laid_by s entries i ++ x = rw is (laid_next s entries i h) in
        let long = length-append (laid_by s entries i) x in (
          omega (arith, k.0, ap length more),
          rw more (stores (take 20 old ++ laid_by s entries i) x old now at (omega (arith, k.0, front_length i)) (omega (arith, front_length i, ap length more)) k.1
              ∙ ap (λ (m : List ℕ). overwritten m old) (append_assoc (take 20 old) (laid_by s entries i) x)),
        )

-- ---- header, flag word, sections and checksum

module _ (s b old : List ℕ) (flags : ℕ) (sixteen : 16 ≤ length s) (fits : 20 + length b + checksum_size flags ≤ length old) where
  abbrev front : List ℕ
  front = take 16 s ++ le32 flags

  front_twenty : length front ≡ 20
  unfolding le32
  front_twenty = length-append (take 16 s) (le32 flags) ∙ rw (length-take-le 16 s sixteen)

  pub message_stored : {now₁ now₂ now₃ now₄ : List ℕ} (end : ℕ) → now₁ ≡ put 0 (take 16 s) old → now₂ ≡ put 16 (le32 flags) now₁ → now₃ ≡ overwritten (take 20 now₂ ++ b) now₂
      → end ≡ 20 + length b → now₄ ≡ put end (checksum flags (take end now₃)) now₃ → now₄ ≡ overwritten (message (take 16 s) flags b) old
  unfolding message le32
  message_stored {now₁} {now₂} {now₃} end e₁ e₂ e₃ stop e₄ =
      let l₁ = length-take-le 16 s sixteen in
      let s₁ : Stored (take 16 s) old now₁ = rw e₁ (stores [] (take 16 s) old old 0 refl (omega arith) (stores_none old)) in
      let s₂ : Stored front old now₂ = rw e₂ (stores (take 16 s) (le32 flags) old now₁ 16 l₁ (omega arith) s₁) in
      let first : take 20 now₂ ≡ front = ap (take 20) s₂ ∙ take_at front _ 20 front_twenty in
      let s₃ : Stored (front ++ b) old now₃ = e₃ ∙ rw first (stores_over front b old now₂ s₂) in
      let l₃ : length (front ++ b) ≡ end = length-append front b ∙ omega (arith, front_twenty, stop) in
      e₄ ∙ sealed (front ++ b) old now₃ flags end l₃ (omega arith) s₃ ∙ ap (λ (m : List ℕ). overwritten (m ++ checksum flags m) old) (append_assoc (take 16 s) (le32 flags) b)
