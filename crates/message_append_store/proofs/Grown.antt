-- The bytes of the new section and of the new message, as code stores them one behind the other.
-- Assumes nothing.
use Prim.Native.Nat.{ℕ, ◌+◌, ◌-◌, ◌≤◌}
use mathlib.Core.Path.{◌≡◌, refl, sym, ap, ◌∙◌}
use mathlib.Core.List.{List, [], ◌∷◌, ◌++◌, append_assoc}
use native.Mathlib.Omega.{arith}
use lib.ListN.{length, take, drop, set, length-append, length-drop, take-append-drop}
use lib.Seq.{length-take-le}
use Rattle.wire.specs.Bytes.{le32, put}
use Rattle.wire.proofs.Parts.{put_fits}
use Rattle.opmsg.specs.Layout.{checksum_size}
use Rattle.message.specs.Message.{checksum, message, whole_length}
use Rattle.message.specs.Append.{sequence_bytes, appended}
use Rattle.message_seal.specs.Inner.{overwritten}
use Rattle.message_seal.proofs.Stores.{Stored, stores_none, stores, stores_byte, sealed}
use Rattle.message_append_store.proofs.Size.{size_of, bytes_length}

module _ (at : ℕ) (name documents old : List ℕ) (fits : at + (1 + size_of name documents) ≤ length old) where
  front_length : length (take at old) ≡ at
  front_length = length-take-le at old (omega arith)

  front_stored : Stored (take at old) old old
  front_stored = rw front_length (sym (take-append-drop at old))

  parts_stored : take at old ++ (1 ∷ []) ++ le32 (size_of name documents) ++ name ++ (0 ∷ []) ++ documents ≡ take at old ++ sequence_bytes name documents
  unfolding sequence_bytes
  parts_stored = simp append_assoc

  -- the section, from the output before it to the output after
  pub section_stored : {now₂ now₃ now₅ : List ℕ} → now₂ ≡ put (at + 1) (le32 (size_of name documents)) (set old at 1) → now₃ ≡ put (at + 5) name now₂
      → now₅ ≡ put (at + 6 + length name) documents (set now₃ (at + 5 + length name) 0) → now₅ ≡ put at (sequence_bytes name documents) old
  unfolding le32
  section_stored {now₂} {now₃} {now₅} e₂ e₃ e₅ =
      let size = le32 (size_of name documents) in
      let l₀ = front_length in
      let p₁ = take at old ++ (1 ∷ []) in
      let l₁ = length-append (take at old) (1 ∷ []) in
      let s₁ = stores_byte (take at old) old old 1 at l₀ (omega arith) front_stored in
      let l₂ = length-append p₁ size in
      let s₂ : Stored (p₁ ++ size) old now₂ = rw e₂ (stores p₁ size old (set old at 1) (at + 1) (omega arith) (omega arith) s₁) in
      let l₃ = length-append (p₁ ++ size) name in
      let s₃ : Stored (p₁ ++ size ++ name) old now₃ = rw e₃ (stores (p₁ ++ size) name old now₂ (at + 5) (omega arith) (omega arith) s₂) in
      let l₄ = length-append (p₁ ++ size ++ name) (0 ∷ []) in
      let s₄ = stores_byte (p₁ ++ size ++ name) old now₃ 0 (at + 5 + length name) (omega arith) (omega arith) s₃ in
      let s₅ = stores (p₁ ++ size ++ name ++ (0 ∷ [])) documents old (set now₃ (at + 5 + length name) 0) (at + 6 + length name) (omega arith) (omega arith) s₄ in
      let l₅ = bytes_length name documents in
      e₅ ∙ s₅ ∙ rw (parts_stored, length-append (take at old) (sequence_bytes name documents), l₀) (sym (put_fits at (sequence_bytes name documents) old (omega arith)))

regrouped : (a b c d e : List ℕ) → a ++ b ++ c ++ d ++ e ≡ a ++ b ++ (c ++ (d ++ e))
regrouped a b c d e = simp append_assoc

module _ (s name documents old : List ℕ) (end flags : ℕ) (low : 20 ≤ end) (inside : end ≤ length s)
    (fits : end + (length name + 6 + length documents) + checksum_size flags ≤ length old) where
  abbrev xs : List ℕ
  xs = take (end - 20) (drop 20 s)

  abbrev stop : ℕ
  stop = end + (length name + 6 + length documents)

  xs_length : length xs ≡ end - 20
  xs_length = length-take-le (end - 20) (drop 20 s) (rw length-drop (omega arith))

  more_length : length (xs ++ sequence_bytes name documents) ≡ stop - 20
  more_length = rw (length-append, xs_length, bytes_length name documents) (omega arith)

  stated : whole_length flags (xs ++ sequence_bytes name documents) ≡ stop + checksum_size flags
  unfolding whole_length
  stated = rw more_length (omega arith)

  abbrev bare : List ℕ
  bare = le32 (stop + checksum_size flags) ++ take 12 (drop 4 s) ++ (le32 flags ++ (xs ++ sequence_bytes name documents))

  module _ {now₁ now₂ now₃ now₄ now₅ : List ℕ} (e₁ : now₁ ≡ put 0 (le32 (stop + checksum_size flags)) old) (e₂ : now₂ ≡ put 4 (take 12 (drop 4 s)) now₁)
      (e₃ : now₃ ≡ put 16 (le32 flags) now₂) (e₄ : now₄ ≡ put 20 xs now₃) (e₅ : now₅ ≡ put end (sequence_bytes name documents) now₄) where
    bare_stored : (length bare ≡ stop) × Stored bare old now₅
    unfolding le32
    bare_stored =
        let a = le32 (stop + checksum_size flags) in
        let b = take 12 (drop 4 s) in
        let c = le32 flags in
        let d = sequence_bytes name documents in
        let lb : length b ≡ 12 = length-take-le 12 (drop 4 s) (rw length-drop (omega arith)) in
        let lx = xs_length in
        let ld = bytes_length name documents in
        let s₁ : Stored a old now₁ = rw e₁ (stores [] a old old 0 refl (omega arith) (stores_none old)) in
        let l₂ = length-append a b in
        let s₂ : Stored (a ++ b) old now₂ = rw e₂ (stores a b old now₁ 4 refl (omega arith) s₁) in
        let l₃ = length-append (a ++ b) c in
        let s₃ : Stored (a ++ b ++ c) old now₃ = rw e₃ (stores (a ++ b) c old now₂ 16 (omega arith) (omega arith) s₂) in
        let l₄ = length-append (a ++ b ++ c) xs in
        let s₄ : Stored (a ++ b ++ c ++ xs) old now₄ = rw e₄ (stores (a ++ b ++ c) xs old now₃ 20 (omega arith) (omega arith) s₃) in
        let l₅ = length-append (a ++ b ++ c ++ xs) d in
        let s₅ : Stored (a ++ b ++ c ++ xs ++ d) old now₅ = rw e₅ (stores (a ++ b ++ c ++ xs) d old now₄ end (omega arith) (omega arith) s₄) in
        let same = regrouped a b c xs d in
        (omega (arith, ap length same), s₅ ∙ ap (λ (m : List ℕ). overwritten m old) same)

    -- the message, from the output before it to the output after
    pub message_stored : {now₆ : List ℕ} → now₆ ≡ put stop (checksum flags (take stop now₅)) now₅ → now₆ ≡ overwritten (appended s flags (xs ++ sequence_bytes name documents)) old
    unfolding appended message
    message_stored e₆ = rw stated (e₆ ∙ sealed bare old now₅ flags stop bare_stored.0 fits bare_stored.1)
