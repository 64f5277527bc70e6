-- What the reader of `specs/Document.antt` accepts is a document of `specs/Grammar.antt`.
-- Assumes nothing.
use Prim.Native.Nat.{ℕ, zero, suc, ◌+◌, ◌-◌, ◌^◌, ◌≤◌, ◌<◌, max}
use mathlib.Core.Path.{◌≡◌, refl, sym, ap, ◌∙◌}
use mathlib.Core.List.{List, [], ◌∷◌, ◌++◌}
use native.Mathlib.Omega.{arith}
use lib.ListN.{length, get_or, take, drop, length-take, length-drop, take-append-drop}
use lib.Seq.{take-add, take-take, drop-drop}
use borrow.Author.Tests.{ltb-false, leb-false, eqb-true, not-false}
use Rattle.wire.specs.Outcome.{Outcome, ok}
use Rattle.wire.specs.Bytes.{Bytes, word, le32, until_zero}
use Rattle.wire.specs.Walk.{Step, step, Reader, walk}
use Rattle.utf8.specs.Utf8.{Utf8}
use Rattle.bson_values.specs.Value.{sized, boolean, string, binary, regex, pointer, code_with_scope, bytes, embedded, Rule, table, rule_in}
use Rattle.bson_values.specs.Value as Walked
use Rattle.bson_elements.specs.Element.{inside, head, element, max_elements}
use Rattle.bson.specs.Document.{document_at}
use Rattle.bson_grammar.specs.Grammar.{◌∈◌, String, Plain, Document, Elements, Element, Value}
use Rattle.bson_grammar.specs.Reading.{Read}
use Rattle.wire.proofs.Outcome.{not_ok, ok_same, bound, passed}
use Rattle.wire.proofs.Bytes.{bytes_drop, bytes_take, le32_word, under_false}
use Rattle.wire.proofs.Walk.{walk_done, walk_step}
use Rattle.utf8.proofs.Checks.{check_text}
use Rattle.bson.proofs.Frame.{Framed, frame_is}
use Rattle.bson_grammar.proofs.Texts.{parted, zero_ended, element_long}
use Rattle.bson_grammar.proofs.Rows.{TakesOnly, sized_sound, boolean_sound, string_sound, binary_sound, regex_sound, pointer_sound, done, ◌&◌, found}

-- an answer, put together from its parts
read : {D : List ℕ → ℕ → Type 0} {xs : List ℕ} {count n c : ℕ} {r : Step ℕ} (held : ℕ) → step n c ≡ ok r
    → n ≤ length xs → D (take n xs) held → c ≡ count + held → c ≤ max count max_elements → Read D xs count r
read {D} {xs} {n} {c} {r} held e w i k l =
    let size : n ≡ r.size = cc in
    let count : c ≡ r.state = cc in
    record { fits = omega arith; held = held; is = rw size at i; counted = omega arith; limited = omega arith }

-- a reader answers only for what is a D
abbrev Sound : (List ℕ → ℕ → Type 0) → Reader ℕ → Type 0
Sound D reader = (at : ℕ) (xs : List ℕ) (count : ℕ) (r : Step ℕ) → Bytes xs → reader at xs count ≡ ok r → Read D xs count r

-- and a row of the table only for what is a value of a type
abbrev ValueSound : ℕ → Reader ℕ → ℕ → Rule → Type 0
ValueSound k document t rule = (v : ℕ) (xs : List ℕ) (count : ℕ) (w : Walked.Value) (r : Step ℕ)
    → Bytes xs → rule v xs ≡ ok w → inside document v xs count w ≡ ok r → Read (Value k t) xs count r

-- ---- parts that were read, put together

scoped_is : {k t held : ℕ} → t ∈ 0x0F ∷ [] → (xs : List ℕ) (n j : ℕ) → Bytes xs → word xs < 2 ^ 31 → word xs ≤ length xs → 4 + n + j ≡ word xs
    → String (take n (drop 4 xs)) → Document k (take j (drop (4 + n) xs)) held → Value k t (take (word xs) xs) held
unfolding le32
scoped_is m xs n j b small fits e s d =
    let four : 4 ≤ length xs = omega arith in
    let whole : word xs ≡ 4 + (n + j) = omega arith in
    let ls : length (take n (drop 4 xs)) ≡ n = simp (length-take, length-drop) (omega arith) in
    let ld : length (take j (drop (4 + n) xs)) ≡ j = simp (length-take, length-drop) (omega arith) in
    let total : 4 + length (take n (drop 4 xs)) + length (take j (drop (4 + n) xs)) ≡ word xs = omega arith in
    let bytes : take (word xs) xs ≡ le32 (word xs) ++ take n (drop 4 xs) ++ take j (drop (4 + n) xs)
    = ap (λ (i : ℕ). take i xs) whole ∙ rw (take-add 4 (n + j) xs, ← le32_word xs b four, take-add n j, drop-drop n 4) in
    rw bytes (rw total at (Value.scoped m s d (omega arith)))

element_is : {k held : ℕ} (xs : List ℕ) (j : ℕ) → 1 + until_zero (drop 1 xs) < length xs → Utf8 (take (until_zero (drop 1 xs)) (drop 1 xs))
    → Value k (get_or xs 0 0) (take j (drop (until_zero (drop 1 xs) + 2) xs)) held → Element k (take (until_zero (drop 1 xs) + 2 + j) xs) (suc held)
element_is [] j h u value = absurd (omega arith)
element_is (x ∷ xs) j h u value =
    let e : until_zero xs + 2 ≡ suc (suc (until_zero xs)) = omega arith in
    let f : suc (suc (until_zero xs)) + j ≡ suc (suc (until_zero xs) + j) = omega arith in
    rw (e, f, take-add (suc (until_zero xs)) j xs) (Element.element (zero_ended xs (omega arith) u) (rw e at value))

document_is : {k held : ℕ} (xs : List ℕ) (n : ℕ) → Bytes xs → Framed xs n → Elements k (take (n - 5) (drop 4 xs)) held → Document (suc k) (take n xs) held
document_is {k} {held} xs n b f es =
    let whole : n ≡ word xs - 5 + 5 = omega (arith, f.is) in
    let last : 4 + (word xs - 5) ≡ n - 1 = omega (arith, f.is) in
    let p = parted 5 xs (omega (arith, f.is)) (omega arith) b (rw last f.ended) in
    let bytes = ap (λ (i : ℕ). take i xs) whole ∙ p.1 in
    rw bytes (Document.document (rw f.is at es) (omega arith))

-- ---- one level, where the documents in it are read soundly

module _ (k : ℕ) (document : Reader ℕ) (sound : Sound (Document k) document) where
  plain_sound : {t : ℕ} {P : List ℕ → Type 0} (o : ℕ → List ℕ → Outcome ℕ) → TakesOnly P o → ((xs : List ℕ) → P xs → Plain t xs)
      → ValueSound k document t (λ v xs. bytes (o v xs))
  unfolding inside
  plain_sound o leaf is v xs count w r b e f =
      bound _ _ e λ n en fn.
      let p = leaf v xs n b en in
      read 0 (rw (← ok_same fn) at f) p.0 (Value.plain (is _ p.1)) (omega arith) (omega arith)

  embedded_sound : {t : ℕ} → t ∈ 0x03 ∷ 0x04 ∷ [] → ValueSound k document t (λ v xs. ok embedded)
  unfolding inside
  embedded_sound m v xs count w r b e f =
      let d = sound v xs count r b (rw (← ok_same e) at f) in
      read d.held refl d.fits (Value.embedded m d.is) d.counted d.limited

  scoped_sound : {t : ℕ} → t ∈ 0x0F ∷ [] → ValueSound k document t code_with_scope
  unfolding inside code_with_scope
  scoped_sound m v xs count w r b e f =
      let a = passed _ _ _ _ e in
      let u = passed _ _ _ _ a.1 in
      let s = under_false _ _ u.0 in
      let l = passed _ _ _ _ u.1 in
      bound _ _ l.1 λ n en fn.
      bound _ _ (rw (← ok_same fn) at f) λ d ed fd.
      let z = passed _ _ _ _ fd in
      let whole : 4 + n + d.size ≡ word xs = eqb-true _ _ (not-false _ z.0) in
      let fits : word xs ≤ length xs = omega (arith, ltb-false) in
      let p = string_sound (v + 4) v _ n (bytes_take (word xs - 4) (drop 4 xs) (bytes_drop 4 xs b)) en in
      let i = sound _ _ count d (bytes_take (word xs - (4 + n)) (drop (4 + n) xs) (bytes_drop (4 + n) xs b)) ed in
      let text = rw (take-take n (word xs - 4) (drop 4 xs) (omega arith)) at p.1 in
      let scope = rw (take-take d.size (word xs - (4 + n)) (drop (4 + n) xs) (omega arith)) at i.is in
      read i.held z.1 fits (scoped_is m xs n d.size b s.1 fits whole text scope) i.counted i.limited

  value_sound : (at t : ℕ) (rule : Rule) → rule_in table at t ≡ ok rule → ValueSound k document t rule
  unfolding table
  value_sound at t rule =
      found (ValueSound k document t) at t rule table
      ((λ m. plain_sound (λ v. sized v 8) (sized_sound 8) (λ xs. Plain.eight m))
      & (λ m. plain_sound (λ v. sized v 4) (sized_sound 4) (λ xs. Plain.four m))
      & (λ m. plain_sound (λ v. sized v 16) (sized_sound 16) (λ xs. Plain.sixteen m))
      & (λ m. plain_sound (λ v. sized v 12) (sized_sound 12) (λ xs. Plain.twelve m))
      & (λ m. plain_sound boolean (boolean_sound m) (λ xs p. p))
      & (λ m. plain_sound (λ v. sized v 0) (sized_sound 0) (λ xs. Plain.nothing m))
      & (λ m. plain_sound (λ v. string v v) (λ v. string_sound v v) (λ xs. Plain.string m))
      & (λ m. plain_sound binary (binary_sound m) (λ xs p. p))
      & (λ m. plain_sound regex (regex_sound m) (λ xs p. p))
      & (λ m. plain_sound pointer (pointer_sound m) (λ xs p. p))
      & embedded_sound
      & scoped_sound
      & done)

  element_sound : Sound (Element k) (element document)
  unfolding element head
  element_sound at xs count r b e =
      bound _ _ e λ h eh fh.
      let c = passed _ _ _ _ eh in
      bound _ _ c.1 λ rule er fr.
      let l = passed _ _ _ _ fr in
      let n : ℕ = until_zero (drop 1 xs) in
      let u = (check_text _ _ (at + 1) (take n (drop 1 xs))).0 l.1 in
      bound _ _ u.1 λ w ew fw.
      bound _ _ (rw (← ok_same fw) at fh) λ d ed fd.
      let named : 1 + n < length xs = omega (arith, leb-false) in
      let i = value_sound at (get_or xs 0 0) rule er _ _ _ w d (bytes_drop (n + 2) xs b) ew ed in
      let fits = simp length-drop at i.fits in
      read (suc i.held) fd (omega arith) (element_is xs d.size named u.0 i.is) (omega arith) (omega (arith, leb-false))

  -- as many turns as bytes are enough: an element takes a byte or more
  elements_sound : (turns at : ℕ) (xs : List ℕ) (count total : ℕ) → walk (element document) turns at xs count ≡ ok total → Bytes xs → length xs ≤ turns
      → (held : ℕ) × Elements k xs held × (total ≡ count + held) × (total ≤ max count max_elements)
  elements_sound zero at [] count total e b h = let c = ok_same (sym (walk_done _ zero at count) ∙ e) in (0, Elements.none, omega arith, omega arith)
  elements_sound zero at (x ∷ xs) count total e b h = absurd (omega arith)
  elements_sound (suc turns) at [] count total e b h = let c = ok_same (sym (walk_done _ (suc turns) at count) ∙ e) in (0, Elements.none, omega arith, omega arith)
  elements_sound (suc turns) at (x ∷ xs) count total e b h =
      bound _ _ (sym (walk_step _ turns at (x ∷ xs) count (omega arith)) ∙ e) λ one eo fo.
      let i = element_sound at (x ∷ xs) count one b eo in
      let some = rw length-take at (element_long i.is) in
      let j = elements_sound turns _ _ _ total fo (bytes_drop one.size (x ∷ xs) b) (rw length-drop (omega arith)) in
      (i.held + j.0, rw take-append-drop at (Elements.more {n = j.0} i.is j.1), omega arith, omega arith)

-- ---- all levels

pub document_sound : (k : ℕ) → Sound (Document k) (document_at k)
unfolding document_at
document_sound zero at xs count r b e = not_ok e
document_sound (suc k) at xs count r b e =
    bound _ _ e λ n en fn.
    bound _ _ fn λ total et ft.
    let f = (frame_is at xs n).0 en in
    let j = elements_sound k (document_at k) (document_sound k) _ _ _ count total et (bytes_take (n - 5) (drop 4 xs) (bytes_drop 4 xs b)) (simp length-take (omega arith)) in
    read j.0 ft f.fits (document_is xs n b f j.1) j.2 j.3
