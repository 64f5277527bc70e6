-- Laws of the kinds of lines: which of them a line is, and what is wrong where the offset is far.
-- Assumes nothing.
use Prim.Native.Nat.{ℕ, ◌^◌, ◌≤◌}
use mathlib.Core.Bool.{Bool, true, false, not, ◌&&◌}
use mathlib.Core.Path.{◌≡◌, refl, sym, ap, ◌∙◌}
use mathlib.Core.List.{List, [], ◌∷◌, ◌++◌}
use lib.ListN.{length}
use lib.Dec.{eqb}
use lib.Pointwise.{pointwise}
use borrow.Author.Tests.{eq-eqb, ne_eqb}
use Rattle.wire.specs.Outcome.{Outcome, ok, refused, refuse, ◌>>=◌}
use Rattle.wire.proofs.Outcome.{not_ok, pass, stop, go_on, halt}
use Rattle.opmsg.specs.Names.{same_text}
use Rattle.listing_lines.specs.Words
use Rattle.listing_stored.specs.Version.{Version}
use Rattle.listing_fields.specs.Numbers.{fields_of, field}
use Rattle.listing_stored.specs.Stored.{Position, Rule, Kind, message, big, bad, end, kinds, rule_of}
use Rattle.listing_stored.specs.Inner.{entries, judged_entry, judged}
use Rattle.listing_fields.proofs.Fields.{same_text_eq, same_text_lem}
use Rattle.listing_fields.proofs.Spelling.{exactly_far}

-- ---- a text that is the field, and the number of fields, as the code compares them

pub word_is : {r b : Bool} {f g x : List ℕ} (w : List ℕ) → f ≡ g → x ≡ w → r ≡ pointwise eqb f x → r ≡ b → same_text g w ≡ b
word_is {g = g} w e d s t = sym (same_text_eq g w) ∙ sym (rw (e, d) at s) ∙ t

pub other_count : {r n m : ℕ} → r ≡ n → (r ≡ m → ⊥) → not (eqb n m) ≡ true
other_count {n = n} {m = m} e h = rw (ne_eqb n m (λ d. h (e ∙ d))) refl

pub same_count : {r n m : ℕ} → r ≡ n → r ≡ m → not (eqb n m) ≡ false
same_count {n = n} {m = m} e h = rw (eq-eqb n m (sym e ∙ h)) refl

-- ---- a check that a test tells

module _ {A : Type 0} (k : ℕ) (f : Unit {0} → Outcome A) where
  pub told_right : (b : Bool) (o : Outcome (Unit {0})) → b ≡ true → (o >>= λ _. ok tt) ≡ refuse 38 k (not b) → (o >>= f) ≡ f tt
  unfolding ◌>>=◌ refuse
  told_right true (ok u) h e = refl
  told_right true (refused n m) h e = not_ok e
  told_right false o h e = absurd (let z : true ≡ false = sym h in cc)

  pub told_wrong : (b : Bool) (o : Outcome (Unit {0})) → b ≡ false → (o >>= λ _. ok tt) ≡ refuse 38 k (not b) → (o >>= f) ≡ refused 38 k
  unfolding ◌>>=◌ refuse
  told_wrong false (ok u) h e = not_ok (sym e)
  told_wrong false (refused n m) h e = ap (λ (r : Outcome (Unit {0})). r >>= f) e
  told_wrong true o h e = absurd (let z : true ≡ false = h in cc)

-- ---- where the offset is far, no line but `end` is right

module _ (v : Version) (p : Position) (fs : List (List ℕ)) where
  module _ (far : 2 ^ 64 ≤ p.offset) where
    message_far : message v p fs ≡ refused 38 p.line
    unfolding message
    message_far = go (eqb (length fs) 8) refl
      where
        go : (b : Bool) → eqb (length fs) 8 ≡ b → message v p fs ≡ refused 38 p.line
        go true e = pass 38 p.line _ (ap not e) ∙ halt _ (exactly_far p.line p.offset (field 1 fs) far)
        go false e = stop 38 p.line _ (ap not e)

    big_far : big v p fs ≡ refused 38 p.line
    unfolding big
    big_far = go v.has_big (eqb (length fs) 3) refl refl
      where
        go : (a b : Bool) → v.has_big ≡ a → eqb (length fs) 3 ≡ b → big v p fs ≡ refused 38 p.line
        go false b h e = stop 38 p.line _ (ap not h)
        go true true h e = pass 38 p.line _ (ap not h) ∙ pass 38 p.line _ (ap not e) ∙ halt _ (exactly_far p.line p.offset (field 1 fs) far)
        go true false h e = pass 38 p.line _ (ap not h) ∙ stop 38 p.line _ (ap not e)

    bad_far : bad v p fs ≡ refused 38 p.line
    unfolding bad
    bad_far = go (eqb (length fs) 4) refl
      where
        go : (b : Bool) → eqb (length fs) 4 ≡ b → bad v p fs ≡ refused 38 p.line
        go true e = pass 38 p.line _ (ap not e) ∙ halt _ (exactly_far p.line p.offset (field 1 fs) far)
        go false e = stop 38 p.line _ (ap not e)

-- ---- which of them a line is

-- a kind that is not asked for may as well be missing
rule_but : (ks : List Kind) (kind : Kind) (k : ℕ) (w : List ℕ) → same_text w kind.word ≡ false → rule_of (ks ++ kind ∷ []) k w ≡ rule_of ks k w
unfolding rule_of
rule_but [] kind k w e = rw (rule_of, e)
rule_but (x ∷ ks) kind k w e = go (same_text w x.word) (rule_but ks kind k w e)
  where
    go : (b : Bool) → rule_of (ks ++ kind ∷ []) k w ≡ rule_of ks k w
        → ◌≡◌ {A = Outcome Rule} (elim b [ true ↦ ok x.rule | false ↦ rule_of (ks ++ kind ∷ []) k w ]) (elim b [ true ↦ ok x.rule | false ↦ rule_of ks k w ])
    go true h = refl
    go false h = h

rule_entries : (k : ℕ) (w : List ℕ) → same_text w Words.end ≡ false → rule_of kinds k w ≡ rule_of entries k w
unfolding kinds entries
rule_entries k w e = rule_but entries (record { word = Words.end; rule = end }) k w e

rule_end : (k : ℕ) (w : List ℕ) → same_text w Words.end ≡ true → rule_of kinds k w ≡ ok end
unfolding kinds rule_of same_text
rule_end k w e = rw (same_text_lem w Words.end e)

and_false : (b : Bool) → (b && false) ≡ false
and_false true = refl
and_false false = refl

module _ (v : Version) (p : Position) (l : List ℕ) where
  abbrev word : List ℕ
  word = field 0 (fields_of l)

  pub entry_message : same_text word Words.msg ≡ true → judged_entry v p l ≡ message v p (fields_of l)
  unfolding judged_entry entries rule_of ◌>>=◌
  entry_message e = rw (rule_of, e)

  pub entry_big : same_text word Words.msg ≡ false → same_text word Words.big ≡ true → judged_entry v p l ≡ big v p (fields_of l)
  unfolding judged_entry entries rule_of ◌>>=◌
  entry_big d e = rw (rule_of, d, rule_of, e)

  module _ (d : same_text word Words.msg ≡ false) (e : same_text word Words.big ≡ false) where
    pub entry_bad : same_text word Words.bad ≡ true → judged_entry v p l ≡ bad v p (fields_of l)
    unfolding judged_entry entries rule_of ◌>>=◌
    entry_bad f = rw (rule_of, d, rule_of, e, rule_of, f)

    pub entry_none : same_text word Words.bad ≡ false → judged_entry v p l ≡ refused 38 p.line
    unfolding judged_entry entries rule_of ◌>>=◌
    entry_none f = rw (rule_of, d, rule_of, e, rule_of, f)

  entry_far : 2 ^ 64 ≤ p.offset → judged_entry v p l ≡ refused 38 p.line
  entry_far far = go (same_text word Words.msg) (same_text word Words.big) (same_text word Words.bad) refl refl refl
    where
      go : (a b c : Bool) → same_text word Words.msg ≡ a → same_text word Words.big ≡ b → same_text word Words.bad ≡ c → judged_entry v p l ≡ refused 38 p.line
      go true b c d e f = entry_message d ∙ message_far v p (fields_of l) far
      go false true c d e f = entry_big d e ∙ big_far v p (fields_of l) far
      go false false true d e f = entry_bad d e f ∙ bad_far v p (fields_of l) far
      go false false false d e f = entry_none d e f

  pub judged_ended : p.ended ≡ true → judged v p l ≡ refused 38 p.line
  unfolding judged
  judged_ended h = stop 38 p.line _ h

  module _ (h : p.ended ≡ false) where
    pub judged_end : same_text word Words.end ≡ true → judged v p l ≡ end v p (fields_of l)
    unfolding judged
    judged_end e =
        let t : (p.bad && not (same_text word Words.end)) ≡ false = rw e (and_false p.bad) in
        pass 38 p.line _ h ∙ pass 38 p.line _ t ∙ go_on _ (rule_end p.line word e)

    module _ (e : same_text word Words.end ≡ false) where
      pub judged_bad : p.bad ≡ true → judged v p l ≡ refused 38 p.line
      unfolding judged
      judged_bad d =
          let t : (p.bad && not (same_text word Words.end)) ≡ true = rw (d, e) in
          pass 38 p.line _ h ∙ stop 38 p.line _ t

      pub judged_entry_lem : p.bad ≡ false → judged v p l ≡ judged_entry v p l
      unfolding judged judged_entry
      judged_entry_lem d =
          let t : (p.bad && not (same_text word Words.end)) ≡ false = rw d in
          pass 38 p.line _ h ∙ pass 38 p.line _ t ∙ rw (rule_entries p.line word e)

      pub judged_far : p.bad ≡ false → 2 ^ 64 ≤ p.offset → judged v p l ≡ refused 38 p.line
      judged_far d far = judged_entry_lem d ∙ entry_far far
