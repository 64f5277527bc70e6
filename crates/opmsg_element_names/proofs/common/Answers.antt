use Rattle.std.proofs.Common.{◌≡◌, ℕ, ◌+◌, ◌-◌, ◌*◌, ◌≤◌, List, length, take, drop, sym, ap, ◌∙◌, arith}
use lib.ListN.{length-drop}
use lib.Seq.{take-add, take_all, length-take-le}
use Rattle.wire.specs.Bytes.{Bytes, word, le32}
use Rattle.wire.proofs.Bytes.{bytes_drop, bytes_take, le32_word}
use Rattle.opmsg_element_names.proofs.common.Goals as goal

-- a part of four bytes by its word
part : (i : ℕ) (a : List ℕ) → Bytes a → i + 4 ≤ length a → le32 (word (take 4 (drop i a))) ≡ take 4 (drop i a)
part i a f m =
    let long : length (take 4 (drop i a)) ≡ 4 = length-take-le 4 (drop i a) (omega (arith, length-drop i a)) in
    le32_word (take 4 (drop i a)) (bytes_take 4 _ (bytes_drop i a f)) (omega (arith, long)) ∙ take_all 4 (take 4 (drop i a)) (omega (arith, long))

-- four bytes more
four : (i : ℕ) (a b : List ℕ) → Bytes a → Bytes b → i + 4 ≤ length a → i + 4 ≤ length b
    → take i a ≡ take i b → word (take 4 (drop i a)) ≡ word (take 4 (drop i b)) → take (i + 4) a ≡ take (i + 4) b
four i a b f g m n e w =
    let same : take 4 (drop i a) ≡ take 4 (drop i b) = sym (part i a f m) ∙ ap le32 w ∙ part i b g n in
    rw (take-add i 4 a, take-add i 4 b, e, same)

pub loop-k-preserved : goal.loop-k-preserved
loop-k-preserved c =
    let a = c.args.a.now in
    let b = c.args.b.now in
    let i = 4 * c.loop-k.k in
    let long : i + 4 - i ≡ 4 = omega arith in
    let e : word (take 4 (drop i a)) ≡ word (take 4 (drop i b)) = rw long at (sym c.word.ensures ∙ c.if-word.false ∙ c.word-in-loop-k.ensures) in
    let next : 4 * (c.loop-k.k + 1) ≡ i + 4 = omega arith in
    rw next (four i a b (λ j. omega (arith, c.type_inv.a j)) (λ j. omega (arith, c.type_inv.b j)) (omega arith) (omega arith) c.loop-k.invariant e)
