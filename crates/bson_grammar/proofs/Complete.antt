-- Every document of `specs/Grammar.antt` is accepted by the reader of `specs/Document.antt`, whatever follows it.
-- Assumes nothing.
use Prim.Native.Nat.{ℕ, zero, suc, ◌+◌, ◌-◌, ◌^◌, ◌≤◌, ◌<◌, max}
use mathlib.Core.Path.{◌≡◌, refl, sym, ap, ◌∙◌}
use mathlib.Core.List.{List, [], ◌∷◌, ◌++◌, append_assoc, append-nil}
use native.Mathlib.Omega.{arith}
use lib.ListN.{length, take, drop, length-append}
use lib.Seq.{take_at, drop_at, drop-append_seam}
use Rattle.wire.specs.Outcome.{Outcome, ok, ◌>>=◌}
use Rattle.wire.specs.Bytes.{word, le32, until_zero, one_of}
use Rattle.wire.specs.Walk.{step, Reader, walk}
use Rattle.wire.proofs.Outcome.{bound, go_on, check_ltb, check_leb, check_eqb, check_under}
use Rattle.wire.proofs.Bytes.{word_le32}
use Rattle.wire.proofs.Walk.{walk_done, walk_step}
use Rattle.utf8.proofs.Checks.{check_text}
use Rattle.bson_values.specs.Value.{sized, boolean, string, binary, regex, pointer, code_with_scope, bytes, embedded, scoped, Rule, table, rule_in}
use Rattle.bson_elements.specs.Element.{inside, head, element, max_elements}
use Rattle.bson.specs.Document.{document_at}
use Rattle.bson_grammar.specs.Grammar.{◌∈◌, String, Plain, Document, Elements, Element, Value}
use Rattle.bson.proofs.Frame.{frame_is}
use Rattle.bson_grammar.proofs.Texts.{joined, until_ended, string_long, document_long, element_long}
use Rattle.bson_grammar.proofs.Rows.{Takes, sized_complete, boolean_complete, string_complete, binary_complete, old_binary_complete, regex_complete, pointer_complete}
use Rattle.bson_grammar.proofs.Rows.{Each, done, ◌&◌, each}

-- whatever is a D is read, and what follows it is not looked at
abbrev Complete : (List ℕ → ℕ → Type 0) → Reader ℕ → Type 0
Complete D reader = (at : ℕ) (xs rest : List ℕ) (count n : ℕ) → D xs n → count + n ≤ max count max_elements
    → reader at (xs ++ rest) count ≡ step (length xs) (count + n)

pub same_step : {a b c d : ℕ} → a ≡ b → c ≡ d → step a c ≡ step b d
same_step p q = cc

-- ---- the table

-- a type has this rule
abbrev Has : Rule → ℕ → Type 0
Has rule t = (at : ℕ) → rule_in table at t ≡ ok rule

-- a type's rule reads xs
record Reads (document : Reader ℕ) (t : ℕ) (xs : List ℕ) (n : ℕ) : Type 0 where
  rule : Rule
  found : Has rule t
  reads : (v : ℕ) (rest : List ℕ) (count : ℕ) → count + n ≤ max count max_elements
      → (rule v (xs ++ rest) >>= inside document v (xs ++ rest) count) ≡ step (length xs) (count + n)

module _ (document : Reader ℕ) where
  plain_reads : {t : ℕ} {ts xs : List ℕ} (o : ℕ → List ℕ → Outcome ℕ) → t ∈ ts → Each (Has (λ v ys. bytes (o v ys))) ts → Takes xs o → Reads document t xs 0
  unfolding inside ◌>>=◌
  plain_reads o m rows takes = record { rule = _; found = each m rows; reads = λ v rest count h. rw (takes v rest) (same_step refl (omega arith)) }

  sized_reads : {t : ℕ} {ts xs : List ℕ} (n : ℕ) → t ∈ ts → Each (Has (λ v ys. bytes (sized v n ys))) ts → length xs ≡ n → Reads document t xs 0
  sized_reads {xs} n m rows h = plain_reads (λ v. sized v n) m rows (sized_complete n xs h)

  -- no type stands in the table twice: each of a row's types is found there
  plain_complete : {t : ℕ} {xs : List ℕ} → Plain t xs → Reads document t xs 0
  unfolding table rule_in one_of
  plain_complete (Plain.eight m h) = sized_reads 8 m ((λ at. refl) & (λ at. refl) & (λ at. refl) & (λ at. refl) & done) h
  plain_complete (Plain.four m h) = sized_reads 4 m ((λ at. refl) & done) h
  plain_complete (Plain.sixteen m h) = sized_reads 16 m ((λ at. refl) & done) h
  plain_complete (Plain.twelve m h) = sized_reads 12 m ((λ at. refl) & done) h
  plain_complete (Plain.boolean m h) = plain_reads boolean m ((λ at. refl) & done) (boolean_complete h)
  plain_complete (Plain.nothing m h) = sized_reads 0 m ((λ at. refl) & (λ at. refl) & (λ at. refl) & (λ at. refl) & done) h
  plain_complete (Plain.string m s) = plain_reads (λ v. string v v) m ((λ at. refl) & (λ at. refl) & (λ at. refl) & done) (λ v. string_complete s v v)
  plain_complete (Plain.binary subtype xs m other h) = plain_reads binary m ((λ at. refl) & done) (binary_complete subtype xs other h)
  plain_complete (Plain.old_binary xs m h) = plain_reads binary m ((λ at. refl) & done) (old_binary_complete xs h)
  plain_complete (Plain.regex m p q) = plain_reads regex m ((λ at. refl) & done) (regex_complete p q)
  plain_complete (Plain.pointer ys m s h) = plain_reads pointer m ((λ at. refl) & done) (pointer_complete ys s h)

-- ---- one level, where the documents in it are read

module _ (k : ℕ) (document : Reader ℕ) (complete : Complete (Document k) document) where
  embedded_complete : {t n : ℕ} {xs : List ℕ} → t ∈ 0x03 ∷ 0x04 ∷ [] → Document k xs n → Reads document t xs n
  unfolding table rule_in one_of inside ◌>>=◌
  embedded_complete {n} {xs} m d =
      record { rule = _; found = each {P = Has (λ v ys. ok embedded)} m ((λ at. refl) & (λ at. refl) & done); reads = λ v rest count h. complete v xs rest count n d h }

  scoped_complete : {t n : ℕ} {xs ys : List ℕ} → t ∈ 0x0F ∷ [] → String xs → Document k ys n → 4 + length xs + length ys < 2 ^ 31
      → Reads document t (le32 (4 + length xs + length ys) ++ xs ++ ys) n
  unfolding table rule_in one_of inside code_with_scope le32
  scoped_complete {t} {n} {xs} {ys} m s d small = record { rule = _; found = each {P = Has code_with_scope} m ((λ at. refl) & done); reads = reads }
    where
      w : ℕ
      w = 4 + length xs + length ys

      reads : (v : ℕ) (rest : List ℕ) (count : ℕ) → count + n ≤ max count max_elements
          → let whole : List ℕ = le32 w ++ xs ++ ys ++ rest in
          (code_with_scope v whole >>= inside document v whole count) ≡ step (length (le32 w ++ xs ++ ys)) (count + n)
      reads v rest count h =
          let whole : List ℕ = le32 w ++ xs ++ ys ++ rest in
          let read : word whole ≡ w = word_le32 w (xs ++ ys ++ rest) (omega arith) in
          let long : length whole ≡ w + length rest = simp length-append (omega arith) in
          let parts : length (xs ++ ys) ≡ word whole - 4 = simp length-append (omega arith) in
          let body : take (word whole - 4) (drop 4 whole) ≡ xs ++ ys = take_at (xs ++ ys) rest (word whole - 4) parts in
          let start : drop (4 + length xs) whole ≡ ys ++ rest
          = ap (drop (4 + length xs)) (append_assoc (le32 w ++ xs) ys rest) ∙ drop_at (le32 w ++ xs) (ys ++ rest) (4 + length xs) (length-append (le32 w) xs) in
          let scope : take (word whole - (4 + length xs)) (drop (4 + length xs) whole) ≡ ys = rw start (take_at ys rest (word whole - (4 + length xs)) (omega arith)) in
          let inner = rw append-nil at (complete (v + (4 + length xs)) ys [] count n d h) in
          let five = string_long s in
          let five' = document_long d in
          let code : code_with_scope v whole ≡ ok (scoped (4 + length xs) (word whole)) =
          (check_ltb _ _ _ _ (length whole) 4).1 (
            omega arith,
            (check_under _ _ _ _ _ (word whole)).1 (
              omega arith,
              omega arith,
              (check_ltb _ _ _ _ (length whole) (word whole)).1 (omega arith, go_on _ (rw body (string_complete s (v + 4) v ys))),
            ),
          ) in
          go_on _ code
          ∙ go_on _ (rw scope inner)
          ∙ (check_eqb _ _ _ _ (4 + length xs + length ys) (word whole)).1 (sym read, same_step (simp length-append (omega arith)) refl)

  value_complete : {t n : ℕ} {xs : List ℕ} → Value k t xs n → Reads document t xs n
  value_complete (Value.plain p) = plain_complete document p
  value_complete (Value.embedded m d) = embedded_complete m d
  value_complete (Value.scoped m s d small) = scoped_complete m s d small

  pub element_complete : Complete (Element k) (element document)
  unfolding element head
  element_complete at es rest count held (Element.element {t} {n} {name} {xs} text value) h =
      let whole : List ℕ = t ∷ name ++ xs ++ rest in
      let u : ℕ = until_zero (drop 1 whole) in
      let named = rw (← append_assoc name xs rest) at (until_ended (xs ++ rest) text) in
      let long = length-append (name ++ xs) rest in
      let both = length-append name xs in
      let after : drop (u + 2) whole ≡ xs ++ rest
      = ap (drop (u + 2)) (append_assoc (t ∷ name) xs rest) ∙ drop_at (t ∷ name) (xs ++ rest) (u + 2) (omega arith) in
      let r = value_complete value in
      bound _ _ (r.reads (at + (u + 2)) rest (count + 1) (omega arith)) λ w ew fw.
      let headed : head at whole count ≡ ok (record { start = u + 2; value = w }) =
      (check_leb _ _ _ _ max_elements count).1 (
        omega arith,
        go_on _ (r.found at)
            ∙ (check_leb _ _ _ _ (length whole) (1 + u)).1 (
              omega arith,
              (check_text _ _ (at + 1) (take u (drop 1 whole))).1 (named.1, go_on _ (rw (← after) at ew)),
            ),
      ) in
      go_on _ headed ∙ go_on _ (rw (← after) at fw) ∙ same_step (omega arith) (omega arith)

  elements_complete : {xs : List ℕ} {n : ℕ} → Elements k xs n → (turns at count : ℕ) → length xs ≤ turns → count + n ≤ max count max_elements
      → walk (element document) turns at xs count ≡ ok (count + n)
  elements_complete Elements.none turns at count l h = walk_done _ turns at count ∙ ap ok (omega arith)
  elements_complete (Elements.more {xs} {ys} e es) zero at count l h = absurd (omega (arith, element_long e, length-append xs ys))
  elements_complete (Elements.more {m} {n} {xs} {ys} e es) (suc turns) at count l h =
      let some = element_long e in
      let long = length-append xs ys in
      let total : count + m + n ≡ count + (m + n) = omega arith in
      walk_step _ turns at (xs ++ ys) count (omega arith)
      ∙ go_on _ (element_complete at xs ys count m e (omega arith))
      ∙ rw (drop-append_seam xs ys) (elements_complete es turns (at + length xs) (count + m) (omega arith) (omega arith) ∙ ap ok total)

-- ---- all levels

pub document_complete : (k : ℕ) → Complete (Document k) (document_at k)
unfolding document_at
document_complete zero at ds rest count n x' h = elim x' [ ]
document_complete (suc k) at ds rest count n (Document.document {xs} es small) h =
    let w : ℕ = length xs + 5 in
    let whole : List ℕ = le32 w ++ xs ++ 0 ∷ [] ++ rest in
    let f = joined w xs rest (omega arith) in
    let last : w - 1 ≡ 4 + length xs = omega arith in
    let size : w - 5 ≡ length xs = omega arith in
    let framed = (frame_is at whole w).1 (record { is = sym f.0; low = omega arith; small = omega arith; fits = omega arith; ended = rw last f.3 }) in
    let inner : take (w - 5) (drop 4 whole) ≡ xs = rw size f.4 in
    go_on _ framed
    ∙ go_on _ (rw inner (elements_complete k (document_at k) (document_complete k) es _ _ count (omega arith) h))
    ∙ same_step (omega arith) refl
