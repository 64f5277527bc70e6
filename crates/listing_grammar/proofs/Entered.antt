-- One line of a stored listing: the reader passes it at a position exactly where it is written of an entry that the version allows there.
-- Assumes nothing.
use Prim.Native.Nat.{ℕ, suc, ◌+◌, ◌^◌, ◌≤◌, ◌<◌}
use mathlib.Core.Bool.{Bool, true, false}
use mathlib.Core.Path.{◌≡◌, refl, sym, ap, ◌∙◌, subst₂}
use mathlib.Core.List.{List, [], ◌∷◌, ◌++◌, append_assoc, Memᴰ}
use native.Mathlib.Omega.{arith}
use lib.ListN.{length}
use lib.IntN.{ℤ, pos, negsuc}
use borrow.Author.Tests.{ltb-true, lt-ltb, eqb-true, not-false}
use Rattle.wire.specs.Outcome.{ok, refused, refuse, ◌>>=◌}
use Rattle.wire.proofs.Outcome.{ok_same, went, passed}
use Rattle.opmsg.specs.Names.{same_text}
use Rattle.listing_lines.specs.Decimal.{decimal, signed_decimal}
use Rattle.listing_lines.specs.Words
use Rattle.listing_lines.specs.Fields.{newline}
use Rattle.listing_lines.specs.Lines.{message_line, big_line, bad_line, end_line}
use Rattle.listing_lines.specs.declared.Summary.{Summary}
use Rattle.listing_stored.specs.Version.{Version, versions, least_message, least_big, most_big}
use Rattle.listing_fields.specs.Numbers.{fields_of, field, spelled_signed, is_signed32}
use Rattle.listing_stored.specs.Stored.{Position, Rule, kinds, rule_of}
use Rattle.listing_stored.specs.Stored as rules
use Rattle.listing_fields.proofs.Fields.{joined, AllPlain, OneLine, joined_line, joined_fields, fields_joined, same_text_lem, line_joined}
use Rattle.listing_fields.proofs.Numbers.{decimal_plain, signed_plain, number_decimal, number_ok, between_decimal, between_ok, exactly_decimal, exactly_ok, signed_decimal_lem, signed_ok}
use Rattle.listing_stored.proofs.Judged.{judged, chosen}
use Rattle.listing_stored.proofs.Versions.{either}
use Rattle.listing_grammar.specs.Grammar.{Unsigned64, Signed32, Allowed}

-- ---- signed numbers

pub signed_of : (z : ℤ) → is_signed32 z ≡ true → Signed32 z
unfolding is_signed32
signed_of (pos n) h = ltb-true n (2 ^ 31) h
signed_of (negsuc n) h = ltb-true n (2 ^ 31) h

pub is_signed : (z : ℤ) → Signed32 z → is_signed32 z ≡ true
unfolding is_signed32
is_signed (pos n) h = lt-ltb n (2 ^ 31) h
is_signed (negsuc n) h = lt-ltb n (2 ^ 31) h

-- ---- positions: before `bad`, behind it, and behind `end`

abbrev pub going : (line offset messages : ℕ) → Position
going k o m = record { line = k; offset = o; messages = m; bad = false; ended = false }

abbrev pub closing : (line offset messages : ℕ) → Position
closing k o m = record { line = k; offset = o; messages = m; bad = true; ended = false }

abbrev pub over : (line offset messages : ℕ) (bad : Bool) → Position
over k o m b = record { line = k; offset = o; messages = m; bad = b; ended = true }

-- ---- the fields of the lines, and their texts

abbrev pub message_fields : ℕ → Summary → List (List ℕ)
message_fields offset m =
    Words.msg ∷ decimal offset ∷ decimal m.length ∷ signed_decimal m.request_id ∷ signed_decimal m.response_to ∷ decimal m.flags ∷ decimal m.sequences
    ∷ decimal m.elements
    ∷ []

abbrev pub big_fields : (offset size : ℕ) → List (List ℕ)
big_fields offset size = Words.big ∷ decimal offset ∷ decimal size ∷ []

abbrev pub bad_fields : (offset number place : ℕ) → List (List ℕ)
bad_fields offset number place = Words.bad ∷ decimal offset ∷ decimal number ∷ decimal place ∷ []

abbrev pub end_fields : (messages : ℕ) → List (List ℕ)
end_fields messages = Words.end ∷ decimal messages ∷ []

plain_message : (o : ℕ) (m : Summary) → AllPlain (message_fields o m)
plain_message o m =
    (omega arith, (decimal_plain o, (decimal_plain m.length, (signed_plain m.request_id, (signed_plain m.response_to, (decimal_plain m.flags, (decimal_plain m.sequences, (decimal_plain m.elements, tt))))))))

plain_big : (o n : ℕ) → AllPlain (big_fields o n)
plain_big o n = (omega arith, (decimal_plain o, (decimal_plain n, tt)))

plain_bad : (o n p : ℕ) → AllPlain (bad_fields o n p)
plain_bad o n p = (omega arith, (decimal_plain o, (decimal_plain n, (decimal_plain p, tt))))

pub plain_end : (m : ℕ) → AllPlain (end_fields m)
plain_end m = (omega arith, (decimal_plain m, tt))

-- what a line tells at a position before `bad`, and the position behind it
pub data Entered (v : Version) (k o m : ℕ) : List ℕ → Position → Type 0 where
  message : (s : Summary) → Unsigned64 o → Allowed v s → Entered v k o m (joined (message_fields o s)) (going (suc k) (o + s.length) (suc m))
  big : (size : ℕ) → Unsigned64 o → v.has_big ≡ true → least_big ≤ size → size ≤ most_big → Entered v k o m (joined (big_fields o size)) (going (suc k) (o + size) (suc m))
  bad : (number place : ℕ) → Unsigned64 o → Unsigned64 number → Unsigned64 place → Entered v k o m (joined (bad_fields o number place)) (closing (suc k) o m)
  end : Unsigned64 m → Entered v k o m (joined (end_fields m)) (over (suc k) o m false)

-- ---- so many fields are these

two_fields : (fs : List (List ℕ)) → length fs ≡ 2 → fs ≡ field 0 fs ∷ field 1 fs ∷ []
two_fields [] e = absurd (omega arith)
two_fields (a ∷ []) e = absurd (omega arith)
two_fields (a ∷ b ∷ []) e = refl
two_fields (a ∷ b ∷ c ∷ fs) e = absurd (omega arith)

three_fields : (fs : List (List ℕ)) → length fs ≡ 3 → fs ≡ field 0 fs ∷ field 1 fs ∷ field 2 fs ∷ []
three_fields [] e = absurd (omega arith)
three_fields (a ∷ fs) e = let l : length fs ≡ 2 = omega arith in ap (λ (l : List (List ℕ)). a ∷ l) (two_fields fs l)

four_fields : (fs : List (List ℕ)) → length fs ≡ 4 → fs ≡ field 0 fs ∷ field 1 fs ∷ field 2 fs ∷ field 3 fs ∷ []
four_fields [] e = absurd (omega arith)
four_fields (a ∷ fs) e = let l : length fs ≡ 3 = omega arith in ap (λ (l : List (List ℕ)). a ∷ l) (three_fields fs l)

eight_fields : (fs : List (List ℕ)) → length fs ≡ 8
    → fs ≡ field 0 fs ∷ field 1 fs ∷ field 2 fs ∷ field 3 fs ∷ field 4 fs ∷ field 5 fs ∷ field 6 fs ∷ field 7 fs ∷ []
eight_fields [] e = absurd (omega arith)
eight_fields (a ∷ []) e = absurd (omega arith)
eight_fields (a ∷ b ∷ []) e = absurd (omega arith)
eight_fields (a ∷ b ∷ c ∷ []) e = absurd (omega arith)
eight_fields (a ∷ b ∷ c ∷ d ∷ fs) e = let l : length fs ≡ 4 = omega arith in ap (λ (l : List (List ℕ)). a ∷ b ∷ c ∷ d ∷ l) (four_fields fs l)

list2 : {a b a' b' : List ℕ} → a ≡ a' → b ≡ b' → a ∷ b ∷ [] ≡ a' ∷ b' ∷ []
list2 p q = cc

list3 : {a b c a' b' c' : List ℕ} → a ≡ a' → b ≡ b' → c ≡ c' → a ∷ b ∷ c ∷ [] ≡ a' ∷ b' ∷ c' ∷ []
list3 p q r = cc

list4 : {a b c d a' b' c' d' : List ℕ} → a ≡ a' → b ≡ b' → c ≡ c' → d ≡ d' → a ∷ b ∷ c ∷ d ∷ [] ≡ a' ∷ b' ∷ c' ∷ d' ∷ []
list4 p q r s = cc

list8 : {a b c d e f g h a' b' c' d' e' f' g' h' : List ℕ} → a ≡ a' → b ≡ b' → c ≡ c' → d ≡ d' → e ≡ e' → f ≡ f' → g ≡ g' → h ≡ h'
    → a ∷ b ∷ c ∷ d ∷ e ∷ f ∷ g ∷ h ∷ [] ≡ a' ∷ b' ∷ c' ∷ d' ∷ e' ∷ f' ∷ g' ∷ h' ∷ []
list8 p q r s t u v w = cc

-- ---- what is passed was written

moved : {v : Version} {k o m : ℕ} {l l' : List ℕ} {q q' : Position} → l ≡ l' → q ≡ q' → Entered v k o m l q → Entered v k o m l' q'
moved {v} {k} {o} {m} e f h = subst₂ (λ (l : List ℕ) (q : Position). Entered v k o m l q) e f h

module _ (v : Version) (k o m : ℕ) (l : List ℕ) (q : Position) where
  -- the text of fields that are known
  text : (fs : List (List ℕ)) → fields_of l ≡ fs → joined fs ≡ l
  text fs e = ap joined (sym e) ∙ joined_fields l

  message_entered : field 0 (fields_of l) ≡ Words.msg → rules.message v (going k o m) (fields_of l) ≡ ok q → Entered v k o m l q
  unfolding rules.message
  message_entered w h =
      let fs = fields_of l in
      let a = passed _ _ _ _ h in
      let b = went _ _ a.1 in
      let c = went _ _ b.2 in
      let d = went _ _ c.2 in
      let e = went _ _ d.2 in
      let f = went _ _ e.2 in
      let g = went _ _ f.2 in
      let i = went _ _ g.2 in
      let offset = exactly_ok k o (field 1 fs) b.0 b.1 in
      let size = between_ok k least_message v.longest (field 2 fs) c.0 c.1 in
      let request = signed_ok k (field 3 fs) d.0 d.1 in
      let response = signed_ok k (field 4 fs) e.0 e.1 in
      let flags = number_ok k (field 5 fs) f.0 f.1 in
      let sequences = between_ok k 0 v.sequences (field 6 fs) g.0 g.1 in
      let elements = between_ok k 0 v.elements (field 7 fs) i.0 i.1 in
      let s : Summary =
      record {
        length = c.0;
        request_id = spelled_signed (field 3 fs);
        response_to = spelled_signed (field 4 fs);
        flags = f.0;
        sequences = g.0;
        elements = i.0;
      } in
      let all : fs ≡ message_fields o s =
      eight_fields fs (eqb-true (length fs) 8 (not-false _ a.0))
      ∙ list8 w offset.0 size.is request.0 response.0 flags.0 sequences.is elements.is in
      let allowed : Allowed v s =
      record {
        least = size.low;
        most = size.high;
        request = signed_of _ request.1;
        response = signed_of _ response.1;
        flags = flags.1;
        sequences = sequences.high;
        elements = elements.high;
      } in
      moved {l = joined (message_fields o s)} (text (message_fields o s) all) (ok_same i.2) (message s offset.1 allowed)

  big_entered : field 0 (fields_of l) ≡ Words.big → rules.big v (going k o m) (fields_of l) ≡ ok q → Entered v k o m l q
  unfolding rules.big
  big_entered w h =
      let fs = fields_of l in
      let n = passed _ _ _ _ h in
      let a = passed _ _ _ _ n.1 in
      let b = went _ _ a.1 in
      let c = went _ _ b.2 in
      let offset = exactly_ok k o (field 1 fs) b.0 b.1 in
      let size = between_ok k least_big most_big (field 2 fs) c.0 c.1 in
      let all : fs ≡ big_fields o c.0 = three_fields fs (eqb-true (length fs) 3 (not-false _ a.0)) ∙ list3 w offset.0 size.is in
      moved (text (big_fields o c.0) all) (ok_same c.2) (big c.0 offset.1 (not-false _ n.0) size.low size.high)

  bad_entered : field 0 (fields_of l) ≡ Words.bad → rules.bad v (going k o m) (fields_of l) ≡ ok q → Entered v k o m l q
  unfolding rules.bad
  bad_entered w h =
      let fs = fields_of l in
      let a = passed _ _ _ _ h in
      let b = went _ _ a.1 in
      let c = went _ _ b.2 in
      let d = went _ _ c.2 in
      let offset = exactly_ok k o (field 1 fs) b.0 b.1 in
      let number = number_ok k (field 2 fs) c.0 c.1 in
      let place = number_ok k (field 3 fs) d.0 d.1 in
      let all : fs ≡ bad_fields o c.0 d.0 = four_fields fs (eqb-true (length fs) 4 (not-false _ a.0)) ∙ list4 w offset.0 number.0 place.0 in
      moved (text (bad_fields o c.0 d.0) all) (ok_same d.2) (bad c.0 d.0 offset.1 number.1 place.1)

-- `end` goes by its fields at any position
pub end_passed : (v : Version) (p q : Position) (l : List ℕ) → field 0 (fields_of l) ≡ Words.end → rules.end v p (fields_of l) ≡ ok q
    → (joined (end_fields p.messages) ≡ l) × Unsigned64 p.messages × (rules.after_end p ≡ q)
unfolding rules.end
end_passed v p q l w h =
    let fs = fields_of l in
    let a = passed _ _ _ _ h in
    let b = went _ _ a.1 in
    let count = exactly_ok p.line p.messages (field 1 fs) b.0 b.1 in
    let all : fs ≡ end_fields p.messages = two_fields fs (eqb-true (length fs) 2 (not-false _ a.0)) ∙ list2 w count.0 in
    (ap joined (sym all) ∙ joined_fields l, count.1, ok_same b.2)

pub entered : (v : Version) (k o m : ℕ) (l : List ℕ) (q : Position) → judged v (going k o m) l ≡ ok q → Entered v k o m l q
unfolding judged
entered v k o m l q h =
    let a = passed _ _ _ _ h in
    let b = passed _ _ _ _ a.1 in
    let c = went _ _ b.1 in
    let fs = fields_of l in
    chosen k (field 0 fs) c.0 c.1
    (λ w e. message_entered v k o m l q w (ap (λ (r : Rule). r v (going k o m) fs) e ∙ c.2))
    (λ w e. big_entered v k o m l q w (ap (λ (r : Rule). r v (going k o m) fs) e ∙ c.2))
    (λ w e. bad_entered v k o m l q w (ap (λ (r : Rule). r v (going k o m) fs) e ∙ c.2))
    (λ w e.
    let f = end_passed v (going k o m) q l w (ap (λ (r : Rule). r v (going k o m) fs) e ∙ c.2) in
    moved f.0 f.2 (end f.1))

-- ---- what is written is passed

-- the numbers of a version are 64-bit numbers
pub record Small (v : Version) : Type 0 where
  pub longest : v.longest < 2 ^ 64
  pub sequences : v.sequences < 2 ^ 64
  pub elements : v.elements < 2 ^ 64

pub small : (v : Version) → Memᴰ v versions → Small v
small v m =
    either v m
    (λ e. rw e (record { longest = omega arith; sequences = omega arith; elements = omega arith }))
    (λ e. rw e (record { longest = omega arith; sequences = omega arith; elements = omega arith }))

pub judged_entered : {v : Version} {k o m : ℕ} {l : List ℕ} {q : Position} → Small v → Entered v k o m l q → judged v (going k o m) l ≡ ok q
unfolding judged rule_of kinds same_text rules.message rules.big rules.bad rules.end ◌>>=◌ refuse
judged_entered {v} {k} {o} {m} small (message s u a) =
    rw (
      fields_joined Words.msg _ (plain_message o s),
      exactly_decimal k o u,
      between_decimal k least_message v.longest s.length (omega (arith, a.most, small.longest)) a.least a.most,
      signed_decimal_lem k s.request_id (is_signed _ a.request),
      signed_decimal_lem k s.response_to (is_signed _ a.response),
      number_decimal k s.flags a.flags,
      between_decimal k 0 v.sequences s.sequences (omega (arith, a.sequences, small.sequences)) (omega arith) a.sequences,
      between_decimal k 0 v.elements s.elements (omega (arith, a.elements, small.elements)) (omega arith) a.elements,
    )
judged_entered {v} {k} {o} {m} small (big size u b low high) =
    rw (fields_joined Words.big _ (plain_big o size), b, exactly_decimal k o u, between_decimal k least_big most_big size (omega arith) low high)
judged_entered {v} {k} {o} {m} small (bad number place u n p) =
    rw (fields_joined Words.bad _ (plain_bad o number place), exactly_decimal k o u, number_decimal k number n, number_decimal k place p)
judged_entered {v} {k} {o} {m} small (end u) = rw (fields_joined Words.end _ (plain_end m), exactly_decimal k m u)

-- ---- behind `bad`, and behind `end`

pub closed : (v : Version) (k o m : ℕ) (l : List ℕ) (q : Position) → judged v (closing k o m) l ≡ ok q
    → (joined (end_fields m) ≡ l) × Unsigned64 m × (over (suc k) o m true ≡ q)
unfolding judged
closed v k o m l q h =
    let fs = fields_of l in
    let a = passed _ _ _ _ h in
    let b = passed _ _ _ _ a.1 in
    let c = went _ _ b.1 in
    let w : field 0 fs ≡ Words.end = same_text_lem _ _ (not-false _ b.0) in
    let e : rules.end ≡ c.0 = ok_same (sym (last k) ∙ ap (rule_of kinds k) (sym w) ∙ c.1) in
    end_passed v (closing k o m) q l w (ap (λ (r : Rule). r v (closing k o m) fs) e ∙ c.2)
  where
    last : (k : ℕ) → rule_of kinds k Words.end ≡ ok rules.end
    last k = unfold rule_of kinds same_text in refl

pub judged_closing : (v : Version) (k o m : ℕ) → Unsigned64 m → judged v (closing k o m) (joined (end_fields m)) ≡ ok (over (suc k) o m true)
unfolding judged rule_of kinds same_text rules.end ◌>>=◌ refuse
judged_closing v k o m u = rw (fields_joined Words.end _ (plain_end m), exactly_decimal k m u)

pub judged_over : (v : Version) (k o m : ℕ) (b : Bool) (l : List ℕ) → judged v (over k o m b) l ≡ refused 38 k
unfolding judged ◌>>=◌ refuse
judged_over v k o m b l = refl

-- ---- their lines

pub message_line_lem : (o : ℕ) (s : Summary) (r : List ℕ) → message_line o s ++ r ≡ joined (message_fields o s) ++ newline ∷ r
unfolding message_line
message_line_lem o s r = rw (line_joined (message_fields o s)) (append_assoc (joined (message_fields o s)) (newline ∷ []) r)

pub big_line_lem : (o n : ℕ) (r : List ℕ) → big_line o n ++ r ≡ joined (big_fields o n) ++ newline ∷ r
unfolding big_line
big_line_lem o n r = rw (line_joined (big_fields o n)) (append_assoc (joined (big_fields o n)) (newline ∷ []) r)

pub bad_line_lem : (o n p : ℕ) (r : List ℕ) → bad_line o n p ++ r ≡ joined (bad_fields o n p) ++ newline ∷ r
unfolding bad_line
bad_line_lem o n p r = rw (line_joined (bad_fields o n p)) (append_assoc (joined (bad_fields o n p)) (newline ∷ []) r)

pub end_line_lem : (m : ℕ) → end_line m ≡ joined (end_fields m) ++ newline ∷ []
unfolding end_line
end_line_lem m = line_joined (end_fields m)

-- each is one line
pub one_line : {v : Version} {k o m : ℕ} {l : List ℕ} {q : Position} → Entered v k o m l q → OneLine l
one_line {v} {k} {o} {m} (message s u a) = joined_line _ (plain_message o s)
one_line {v} {k} {o} {m} (big size u b low high) = joined_line _ (plain_big o size)
one_line {v} {k} {o} {m} (bad number place u n p) = joined_line _ (plain_bad o number place)
one_line {v} {k} {o} {m} (end u) = joined_line _ (plain_end m)

pub end_one_line : (m : ℕ) → OneLine (joined (end_fields m))
end_one_line m = joined_line _ (plain_end m)
