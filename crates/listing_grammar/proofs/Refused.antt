-- The reader refuses at the first bad or missing line: the lines before it are good, and with it they are not.
-- Assumes nothing.
use Prim.Native.Nat.{ℕ, zero, suc, ◌+◌, ◌^◌, ◌≤◌, ◌<◌}
use mathlib.Core.Bool.{Bool, true, false, and-false}
use mathlib.Core.Path.{◌≡◌, refl, sym, ap, ◌∙◌, subst}
use mathlib.Core.Logic.{◌↔◌}
use mathlib.Core.List.{List, [], ◌∷◌, ◌++◌, append_assoc, Memᴰ}
use native.Mathlib.Omega.{arith}
use lib.ListN.{length, drop, length-append, length-drop}
use lib.Seq.{take-append_seam}
use lib.Dec.{eqb, ltb}
use borrow.Author.Tests.{eqb-true, eqb-false, ltb-true, ltb-false}
use Rattle.wire.specs.Outcome.{Outcome, ok, refused, refuse, ◌>>=◌}
use Rattle.wire.proofs.Outcome.{not_ok, went, go_on, halt, assoc}
use Rattle.opmsg.specs.Names.{same_text}
use Rattle.listing_lines.specs.Decimal.{decimal}
use Rattle.listing_lines.specs.Words
use Rattle.listing_lines.specs.Fields.{newline}
use Rattle.listing_lines.specs.Lines.{first_line}
use Rattle.listing.specs.Listing.{messages_of, listed}
use Rattle.listing_stored.specs.Version.{Version, versions}
use Rattle.listing_fields.specs.Numbers.{until_newline}
use Rattle.listing_stored.specs.Stored.{Position, start, Rule, Kind, kinds, rule_of, version_of, Told, read_listing}
use Rattle.listing_stored.specs.Stored as rules
use Rattle.listing_fields.proofs.Fields.{joined, OneLine, joined_line, line_joined, until_end, fields_joined}
use Rattle.listing_fields.proofs.Numbers.{decimal_plain, exactly_decimal}
use Rattle.listing_stored.proofs.Judged.{judged, Cut, cut_of, empty, cut, rest, run, run_empty, run_line, run_rest}
use Rattle.listing_stored.proofs.Short.{At, Next, judged_meets}
use Rattle.listing_stored.proofs.Versions.{one, version_found, version_refused, answered, read_run, read_behind, answered_ended}
use Rattle.listing_grammar.specs.Grammar.{Entries, Listing}
use Rattle.listing_grammar.specs.Reading.{Lines, Good}
use Rattle.wire.proofs.Meets.{Meets, good, fault, missed, other_fault, then, check}
use Rattle.listing_grammar.proofs.Entered.{end_fields, plain_end, end_one_line}
use Rattle.listing_grammar.proofs.Accepted.{is_listing, is_accepted}

-- ---- the lines from a position on, and the answer at their end

unfoldable full : Version → List ℕ → Position → Outcome Told
full v xs p = run v xs p >>= answered v

full_empty : (v : Version) (p : Position) → full v [] p ≡ answered v p
unfolding full
full_empty v p = go_on _ (run_empty v p)

full_rest : (v : Version) (x : ℕ) (xs : List ℕ) (p : Position) → length (x ∷ xs) ≤ until_newline (x ∷ xs) → full v (x ∷ xs) p ≡ refused 38 p.line
unfolding full
full_rest v x xs p h = halt _ (run_rest v x xs p h)

full_line : (v : Version) (l ys : List ℕ) (p : Position) → OneLine l → full v (l ++ newline ∷ ys) p ≡ (judged v p l >>= full v ys)
unfolding full
full_line v l ys p one = ap (λ (o : Outcome Position). o >>= answered v) (run_line v l ys p one) ∙ assoc (judged v p l) (run v ys) (answered v)

-- a refusal is at this line or a later one
abbrev Later : (line number place : ℕ) → Type 0
Later k number place = (number ≡ 38) × (k ≤ place)

answered_meets : (v : Version) (p : Position) → Meets (λ (_ : Told). Unit {0}) (Later p.line) (answered v p)
unfolding answered
answered_meets v p = check 38 p.line _ _ (refl, omega arith) λ _. good tt

full_turn : (v : Version) (most : ℕ) → ((xs : List ℕ) (p : Position) → length xs < most → Meets (λ (_ : Told). Unit {0}) (Later p.line) (full v xs p))
    → (xs : List ℕ) → Cut xs → (p : Position) → length xs ≤ most → Meets (λ (_ : Told). Unit {0}) (Later p.line) (full v xs p)
full_turn v most ih xs empty p n = rw (full_empty v p) (answered_meets v p)
full_turn v most ih xs (cut l ys one) p n =
    rw (full_line v l ys p one) (then _ (other_fault (λ number place h. (h.0, omega (arith, h.1))) (judged_meets v p l)) λ q _ h.
    other_fault (λ number place i. (i.0, omega (arith, i.1, h.line))) (ih ys q (omega (arith, length-append l (newline ∷ ys)))))
full_turn v most ih xs (rest {x} {xs = ys} l) p n = rw (full_rest v x ys p l) (fault {number = 38} {place = p.line} (refl, omega arith))

full_meets : (v : Version) (most : ℕ) (xs : List ℕ) (p : Position) → length xs ≤ most → Meets (λ (_ : Told). Unit {0}) (Later p.line) (full v xs p)
full_meets v zero xs p n = full_turn v zero (λ xs p n. absurd (omega arith)) xs (cut_of xs) p n
full_meets v (suc most) xs p n = full_turn v (suc most) (λ xs p n. full_meets v most xs p (omega arith)) xs (cut_of xs) p n

-- ---- lines

one_line_of : (xs : List ℕ) → ¬ (Memᴰ newline xs) → OneLine xs
one_line_of [] h = tt
one_line_of (x ∷ xs) h = (go (eqb x newline) refl, one_line_of xs (λ m. h (Memᴰ.tail m)))
  where
    go : (b : Bool) → eqb x newline ≡ b → eqb x newline ≡ false
    go true e = absurd (h (Memᴰ.head (sym (eqb-true x newline e))))
    go false e = e

no_newline : {xs : List ℕ} → Memᴰ newline xs → OneLine xs → ⊥
no_newline (Memᴰ.head {x} e) one = eqb-false x newline one.0 (sym e)
no_newline (Memᴰ.tail m) one = no_newline m one.1

-- what begins with a line begins with no other
same_line : (xs ys r t : List ℕ) → OneLine xs → OneLine ys → xs ++ newline ∷ r ≡ ys ++ newline ∷ t → xs ≡ ys
same_line xs ys r t h k e =
    let n : length xs ≡ length ys = sym (until_end xs r h) ∙ ap until_newline e ∙ until_end ys t k in
    sym (take-append_seam xs (newline ∷ r)) ∙ rw (n, e) (take-append_seam ys (newline ∷ t))

-- the first line

abbrev first_text : ℕ → List ℕ
first_text n = joined (Words.relay_log ∷ decimal n ∷ [])

first_one : (n : ℕ) → OneLine (first_text n)
first_one n = joined_line _ (omega arith, (decimal_plain n, tt))

first_line_lem : (n : ℕ) (r : List ℕ) → first_line n ++ r ≡ first_text n ++ newline ∷ r
unfolding first_line
first_line_lem n r = rw (line_joined (Words.relay_log ∷ decimal n ∷ [])) (append_assoc (first_text n) (newline ∷ []) r)

-- ---- a refusal goes by the lines up to it

-- after one line
one_refused : (l : List ℕ) (o : Outcome Position) (f g : Position → Outcome Told) (p : Position) (number place : ℕ) → Meets (Next p l) (At p.line) o
    → ((q : Position) → q.line ≡ suc p.line → f q ≡ refused number place → g q ≡ refused number place)
    → (o >>= f) ≡ refused number place → (o >>= g) ≡ refused number place
unfolding ◌>>=◌
one_refused l o f g p number place (good {a = q} n) k h = k q n.line h
one_refused l o f g p number place (fault q) k h = h

front_refused : (v : Version) {k : ℕ} {ls : List ℕ} (a b : List ℕ) (p : Position) (number place : ℕ) → Lines k ls → place < p.line + k
    → full v (ls ++ a) p ≡ refused number place → full v (ls ++ b) p ≡ refused number place
front_refused v a b p number place Lines.none l h = absurd (omega (arith, (missed (full_meets v (length a) a p (omega arith)) h).1))
front_refused v a b p number place (Lines.more {k} {xs} {ys} n r) l h =
    let one = one_line_of xs n in
    let x : full v (xs ++ newline ∷ ys ++ a) p ≡ (judged v p xs >>= full v (ys ++ a)) = rw (append_assoc xs (newline ∷ ys) a) (full_line v xs (ys ++ a) p one) in
    let y : full v (xs ++ newline ∷ ys ++ b) p ≡ (judged v p xs >>= full v (ys ++ b)) = rw (append_assoc xs (newline ∷ ys) b) (full_line v xs (ys ++ b) p one) in
    y ∙ one_refused xs (judged v p xs) (full v (ys ++ a)) (full v (ys ++ b)) p number place (judged_meets v p xs)
    (λ q e i. front_refused v a b q number place r (omega arith) i) (sym x ∙ h)

-- lines that an accepted listing begins with, and what stands behind the first
record Behind (xs ys : List ℕ) : Type 0 where
  version : Version
  reads : (r : List ℕ) → read_listing (xs ++ newline ∷ ys ++ r) ≡ full version (ys ++ r) start

behind_first : (xs ys other : List ℕ) (t : Told) → OneLine xs → read_listing (xs ++ newline ∷ ys ++ other) ≡ ok t → Behind xs ys
unfolding read_listing full
behind_first xs ys other t one h =
    let s = xs ++ newline ∷ ys ++ other in
    let w = went _ _ h in
    let v = w.0 in
    let first = version_found s versions v w.1 in
    let d = drop (length (first_line v.number)) s in
    let same : xs ≡ first_text v.number =
    same_line xs (first_text v.number) (ys ++ other) d one (first_one v.number) (sym (append_assoc xs (newline ∷ ys) other) ∙ sym first.1 ∙ first_line_lem v.number d) in
    record {
      version = v;
      reads = λ r.
          ap read_listing (append_assoc xs (newline ∷ ys) r ∙ ap (λ (x : List ℕ). x ++ newline ∷ (ys ++ r)) same ∙ sym (first_line_lem v.number (ys ++ r)))
          ∙ read_behind v (ys ++ r) first.0;
    }

-- with the line that was refused they are not good
not_good : (s : List ℕ) (k : ℕ) → read_listing s ≡ refused 38 (suc k) → ¬ Good (suc k) s
not_good s k h g = go g.lines g.number g.split g.begins
  where
    go : (lines : List ℕ) → Lines (suc k) lines → s ≡ lines ++ g.rest → Listing g.version g.messages (lines ++ g.other) → ⊥
    go lines (Lines.more {xs} {ys} n r) split begins =
        let accepted = is_accepted begins in
        let b = behind_first xs ys g.other _ (one_line_of xs n) accepted in
        let stopped = front_refused b.version g.rest g.other start 38 (suc k) r (omega arith) (sym (b.reads g.rest) ∙ ap read_listing (sym split) ∙ h) in
        not_ok (sym stopped ∙ sym (b.reads g.other) ∙ accepted)

-- ---- the lines before it are good

judged_end : (v : Version) (p : Position) → p.ended ≡ false → p.messages < 2 ^ 64 → judged v p (joined (end_fields p.messages)) ≡ ok (rules.after_end p)
unfolding judged rule_of kinds same_text rules.end ◌>>=◌ refuse
judged_end v p e u = rw (fields_joined Words.end _ (plain_end p.messages), e, and-false p.bad, exactly_decimal p.line p.messages u)

-- a listing can be finished at any position
record Finish (v : Version) (p : Position) : Type 0 where
  other : List ℕ
  told : Told
  reads : full v other p ≡ ok told

finish : (v : Version) (p : Position) → p.messages < 2 ^ 64 → Finish v p
finish v p u = go p.ended refl
  where
    go : (b : Bool) → p.ended ≡ b → Finish v p
    go true e = record { other = []; told = _; reads = full_empty v p ∙ answered_ended v p e }
    go false e = record {
      other = joined (end_fields p.messages) ++ newline ∷ [];
      told = _;
      reads =
          full_line v (joined (end_fields p.messages)) [] p (end_one_line p.messages) ∙ go_on _ (judged_end v p e u) ∙ full_empty v (rules.after_end p)
          ∙ answered_ended v (rules.after_end p) refl;
    }

-- good lines from a position on, up to a place
record Going (v : Version) (p : Position) (xs : List ℕ) (place : ℕ) : Type 0 where
  number : ℕ
  lines : List ℕ
  rest : List ℕ
  other : List ℕ
  told : Told
  split : xs ≡ lines ++ rest
  are : Lines number lines
  at : place ≡ p.line + number
  reads : full v (lines ++ other) p ≡ ok told

none_going : (v : Version) (p : Position) (xs : List ℕ) (place : ℕ) → p.messages < 2 ^ 64 → place ≡ p.line → Going v p xs place
none_going v p xs place u e =
    let f = finish v p u in
    record { number = 0; lines = []; rest = xs; other = f.other; told = f.told; split = refl; are = Lines.none; at = omega arith; reads = f.reads }

one_going : (v : Version) (p q : Position) (l ys : List ℕ) (place : ℕ) → OneLine l → judged v p l ≡ ok q → q.line ≡ suc p.line → Going v q ys place → Going v p (l ++ newline ∷ ys) place
one_going v p q l ys place one e n g = record {
  number = suc g.number;
  lines = l ++ newline ∷ g.lines;
  rest = g.rest;
  other = g.other;
  told = g.told;
  split = ap (λ (x : List ℕ). l ++ newline ∷ x) g.split ∙ sym (append_assoc l (newline ∷ g.lines) g.rest);
  are = Lines.more {xs = l} (λ m. no_newline m one) g.are;
  at = omega (arith, g.at);
  reads = ap (λ (x : List ℕ). full v x p) (append_assoc l (newline ∷ g.lines) g.other) ∙ full_line v l (g.lines ++ g.other) p one ∙ go_on _ e ∙ g.reads;
}

good_turn : (v : Version) (most : ℕ)
    → ((xs : List ℕ) (p : Position) (place : ℕ) → length xs < most → p.messages + length xs < 2 ^ 64 → full v xs p ≡ refused 38 place → Going v p xs place)
    → (xs : List ℕ) → Cut xs → (p : Position) (place : ℕ) → length xs ≤ most → p.messages + length xs < 2 ^ 64 → full v xs p ≡ refused 38 place → Going v p xs place
good_turn v most ih xs empty p place n u h = none_going v p [] place (omega arith) (early (answered v p) (at_line p) (sym (full_empty v p) ∙ h))
  where
    at_line : (p : Position) → Meets (λ (_ : Told). Unit {0}) (At p.line) (answered v p)
    at_line p = unfold answered in check 38 p.line _ _ (refl, refl) λ _. good tt

    early : (o : Outcome Told) → Meets (λ (_ : Told). Unit {0}) (At p.line) o → o ≡ refused 38 place → place ≡ p.line
    early o m e = (missed m e).1
good_turn v most ih xs (cut l ys one) p place n u h = go (judged v p l) refl (judged_meets v p l) (sym (full_line v l ys p one) ∙ h)
  where
    size : length (l ++ newline ∷ ys) ≡ length l + suc (length ys)
    size = length-append l (newline ∷ ys)

    go : (o : Outcome Position) → judged v p l ≡ o → Meets (Next p l) (At p.line) o → (o >>= full v ys) ≡ refused 38 place → Going v p (l ++ newline ∷ ys) place
    go o e (good {a = q} m) h = one_going v p q l ys place one e m.line (ih ys q place (omega (arith, size)) (omega (arith, size, m.messages)) (sym (go_on (full v ys) refl) ∙ h))
    go o e (fault {number} {place = i} f) h = none_going v p (l ++ newline ∷ ys) place (omega arith) (same ∙ f.1)
      where
        same : place ≡ i
        same = unfold ◌>>=◌ in cc
good_turn v most ih xs (rest {x} {xs = ys} l) p place n u h = none_going v p (x ∷ ys) place (omega arith) (same (sym (full_rest v x ys p l) ∙ h))
  where
    same : ◌≡◌ {A = Outcome Told} (refused 38 p.line) (refused 38 place) → place ≡ p.line
    same e = cc

good_run : (v : Version) (most : ℕ) (xs : List ℕ) (p : Position) (place : ℕ) → length xs ≤ most → p.messages + length xs < 2 ^ 64 → full v xs p ≡ refused 38 place → Going v p xs place
good_run v zero xs p place n u h = good_turn v zero (λ xs p place n u h. absurd (omega arith)) xs (cut_of xs) p place n u h
good_run v (suc most) xs p place n u h = good_turn v (suc most) (λ xs p place n u h. good_run v most xs p place (omega arith) u h) xs (cut_of xs) p place n u h

no_lines : (s : List ℕ) → Good 0 s
unfolding versions messages_of
no_lines s = record {
  lines = [];
  rest = s;
  split = refl;
  number = Lines.none;
  version = 1;
  messages = 0;
  other = listed 1 [];
  begins = Listing.listing {v = one} {es = []} (Memᴰ.head refl) Entries.none (omega arith);
}

lines_behind : (s : List ℕ) (v : Version) (place : ℕ) → Memᴰ v versions → (first_line v.number ++ drop (length (first_line v.number)) s ≡ s)
    → (g : Going v start (drop (length (first_line v.number)) s) place) → Good (suc g.number) s
lines_behind s v place m first g =
    let n = v.number in
    let all : (r : List ℕ) → first_text n ++ newline ∷ g.lines ++ r ≡ first_line n ++ (g.lines ++ r) = λ r. append_assoc (first_text n) (newline ∷ g.lines) r ∙ sym (first_line_lem n (g.lines ++ r)) in
    record {
      lines = first_text n ++ newline ∷ g.lines;
      rest = g.rest;
      split = sym first ∙ ap (λ (x : List ℕ). first_line n ++ x) g.split ∙ sym (all g.rest);
      number = Lines.more {xs = first_text n} (λ m. no_newline m (first_one n)) g.are;
      version = g.told.version;
      messages = g.told.messages;
      other = g.other;
      begins = is_listing _ g.told (ap read_listing (all g.other) ∙ read_behind v (g.lines ++ g.other) m ∙ (unfold full in g.reads));
    }

is_good : (s : List ℕ) (k : ℕ) → length s < 2 ^ 64 → read_listing s ≡ refused 38 (suc k) → Good k s
unfolding read_listing full
is_good s k l h = go (version_of versions s) refl
  where
    go : (o : Outcome Version) → version_of versions s ≡ o → Good k s
    go (ok v) e =
        let first = version_found s versions v e in
        let r = drop (length (first_line v.number)) s in
        let g = good_run v (length r) r start (suc k) (omega arith) (omega (arith, length-drop (length (first_line v.number)) s)) (sym (read_run s v e) ∙ h) in
        let same : suc g.number ≡ k = omega (arith, g.at) in
        subst (λ (n : ℕ). Good n s) same (lines_behind s v (suc k) first.0 first.1 g)
    go (refused number place) e =
        let a : place ≡ 1 = (version_refused s versions number place e).1 in
        let b : refused number place ≡ refused 38 (suc k) = sym (halt _ e) ∙ h in
        let c : place ≡ suc k = cc in
        let same : 0 ≡ k = omega arith in
        subst (λ (n : ℕ). Good n s) same (no_lines s)

-- ---- exactly so

-- a refusal has the number 38, and a place above 0
read_refused : (s : List ℕ) (number place : ℕ) → read_listing s ≡ refused number place → (number ≡ 38) × (0 < place)
unfolding read_listing full
read_refused s number place h = go (version_of versions s) refl
  where
    go : (o : Outcome Version) → version_of versions s ≡ o → (number ≡ 38) × (0 < place)
    go (ok v) e =
        let r = drop (length (first_line v.number)) s in
        let m = missed (full_meets v (length r) r start (omega arith)) (sym (read_run s v e) ∙ h) in
        (m.0, omega (arith, m.1))
    go (refused n i) e =
        let a = version_refused s versions n i e in
        let b : refused n i ≡ refused number place = sym (halt _ e) ∙ h in
        let c : n ≡ number = cc in
        let d : i ≡ place = cc in
        (sym c ∙ a.0, omega (arith, a.1))

-- fewer lines of good ones are good
record Front (j : ℕ) (ls : List ℕ) : Type 0 where
  lines : List ℕ
  rest : List ℕ
  split : ls ≡ lines ++ rest
  are : Lines j lines

front_lines : (j : ℕ) {k : ℕ} {ls : List ℕ} → j ≤ k → Lines k ls → Front j ls
front_lines zero {ls = ls} l h = record { lines = []; rest = ls; split = refl; are = Lines.none }
front_lines (suc j) l Lines.none = absurd (omega arith)
front_lines (suc j) l (Lines.more {xs} {ys} n h) =
    let f = front_lines j (omega arith) h in
    record {
      lines = xs ++ newline ∷ f.lines;
      rest = f.rest;
      split = ap (λ (x : List ℕ). xs ++ newline ∷ x) f.split ∙ sym (append_assoc xs (newline ∷ f.lines) f.rest);
      are = Lines.more {xs = xs} n f.are;
    }

fewer : (s : List ℕ) (j k : ℕ) → j ≤ k → Good k s → Good j s
fewer s j k l g =
    let f = front_lines j l g.number in
    let all : (r : List ℕ) → g.lines ++ r ≡ f.lines ++ (f.rest ++ r) = λ r. ap (λ (x : List ℕ). x ++ r) f.split ∙ append_assoc f.lines f.rest r in
    record {
      lines = f.lines;
      rest = f.rest ++ g.rest;
      split = g.split ∙ all g.rest;
      number = f.are;
      version = g.version;
      messages = g.messages;
      other = f.rest ++ g.other;
      begins = subst (Listing g.version g.messages) (all g.other) g.begins;
    }

first_bad : (s : List ℕ) (k j : ℕ) → Good k s → ¬ Good (suc k) s → Good j s → ¬ Good (suc j) s → j ≡ k
first_bad s k j g n h m = go (ltb j k) refl (ltb k j) refl
  where
    go : (a : Bool) → ltb j k ≡ a → (b : Bool) → ltb k j ≡ b → j ≡ k
    go true e b f = absurd (m (fewer s (suc j) k (ltb-true j k e) g))
    go false e true f = absurd (n (fewer s (suc k) j (ltb-true k j f) h))
    go false e false f = omega (arith, ltb-false j k e, ltb-false k j f)

pub refuses : (s : List ℕ) (k : ℕ) → length s < 2 ^ 64
    → (read_listing s ≡ refused 38 (suc k)) ↔ (((version messages : ℕ) → ¬ Listing version messages s) × Good k s × ¬ Good (suc k) s)
refuses s k l = (λ h. (λ version messages x. not_ok (sym h ∙ is_accepted x), is_good s k l h, not_good s k h), λ c. back (read_listing s) refl c)
  where
    back : (o : Outcome Told) → read_listing s ≡ o → ((version messages : ℕ) → ¬ Listing version messages s) × Good k s × ¬ Good (suc k) s → read_listing s ≡ refused 38 (suc k)
    back (ok t) e c = absurd (c.0 t.version t.messages (is_listing s t e))
    back (refused number zero) e c = absurd (omega (arith, (read_refused s number zero e).1))
    back (refused number (suc j)) e c =
        let n = (read_refused s number (suc j) e).0 in
        let f : read_listing s ≡ refused 38 (suc j) = e ∙ rw n in
        let same = first_bad s k j c.1 c.2 (is_good s j l f) (not_good s j f) in
        f ∙ rw same
