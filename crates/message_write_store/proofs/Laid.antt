-- The message stored from left to right: length, ids, opcode, flag word, kind, body and checksum.
-- Assumes nothing.
use Prim.Native.Nat.{ℕ, ◌+◌, ◌≤◌, ◌<◌}
use mathlib.Core.Path.{◌≡◌, refl, ◌∙◌}
use mathlib.Core.List.{List, [], ◌∷◌, ◌++◌}
use native.Mathlib.Omega.{arith}
use lib.ListN.{length, take, set}
use lib.IntN.{ℤ}
use Rattle.wire.specs.Bytes.{le32, bits32, put}
use Rattle.opmsg.specs.Layout.{checksum_size}
use Rattle.message.specs.Message.{checksum, message, whole_length}
use Rattle.message.specs.Write.{written}
use Rattle.message.proofs.Message.{message_whole}
use Rattle.message_seal.proofs.Stores.{Stored, stores_none, stored_length, stores, stores_byte, sealed}

-- after each store
module _ (i j : ℤ) (flags : ℕ) (s old n₁ n₂ n₃ n₄ n₅ : List ℕ) (room : whole_length flags (0 ∷ s) ≤ length old)
    (e₁ : n₁ ≡ put 0 (le32 (whole_length flags (0 ∷ s))) old) (e₂ : n₂ ≡ put 4 (le32 (bits32 i)) n₁) (e₃ : n₃ ≡ put 8 (le32 (bits32 j)) n₂)
    (e₄ : n₄ ≡ put 12 (le32 2013) n₃) (e₅ : n₅ ≡ put 16 (le32 flags) n₄) where
  enough : 21 + length s + checksum_size flags ≤ length old
  unfolding whole_length
  enough = omega arith

  abbrev first : List ℕ
  first = le32 (whole_length flags (0 ∷ s))

  abbrev front : List ℕ
  front = first ++ (le32 (bits32 i) ++ (le32 (bits32 j) ++ (le32 2013 ++ le32 flags)))

  front_stored : Stored front old n₅
  unfolding le32
  front_stored =
      let l = enough in
      let s₁ = e₁ ∙ stores [] (first) old old 0 refl (omega arith) (stores_none old) in
      let s₂ = e₂ ∙ stores (first) (le32 (bits32 i)) old n₁ 4 refl (omega arith) s₁ in
      let s₃ = e₃ ∙ stores (first ++ le32 (bits32 i)) (le32 (bits32 j)) old n₂ 8 refl (omega arith) s₂ in
      let s₄ = e₄ ∙ stores (first ++ (le32 (bits32 i) ++ le32 (bits32 j))) (le32 2013) old n₃ 12 refl (omega arith) s₃ in
      e₅ ∙ stores (first ++ (le32 (bits32 i) ++ (le32 (bits32 j) ++ le32 2013))) (le32 flags) old n₄ 16 refl (omega arith) s₄

  -- the kind byte's place is there
  pub kind_fits : 20 < length n₅
  unfolding le32
  kind_fits = omega (arith, enough, stored_length front old n₅ (omega (arith, enough)) front_stored)

  module _ {n₆ n₇ : List ℕ} (e₆ : n₆ ≡ put 21 s (set n₅ 20 0)) (e₇ : n₇ ≡ put (21 + length s) (checksum flags (take (21 + length s) n₆)) n₆) where
    pub laid : Stored (written i j flags s) old n₇
    unfolding le32 written message
    laid =
        let l = enough in
        let kind = stores_byte front old n₅ 0 20 refl (omega arith) front_stored in
        let all = e₆ ∙ stores (front ++ (0 ∷ [])) s old (set n₅ 20 0) 21 refl (omega arith) kind in
        e₇ ∙ sealed (front ++ (0 ∷ s)) old n₆ flags (21 + length s) (omega arith) l all

-- what it is laid over keeps its length
pub laid_length : (i j : ℤ) (flags : ℕ) (s old new : List ℕ) → whole_length flags (0 ∷ s) ≤ length old → Stored (written i j flags s) old new → length new ≡ length old
unfolding le32 written
laid_length i j flags s old new room e =
    let n : length (written i j flags s) ≡ whole_length flags (0 ∷ s) = message_whole _ flags (0 ∷ s) refl in
    stored_length (written i j flags s) old new (omega arith) e
