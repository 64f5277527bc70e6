-- Laws of one line: a refusal of it is 38 at its number, and a good line is shorter than 256 bytes; so as many bytes without a newline are refused, whatever comes behind them.
-- Assumes nothing.
use Prim.Native.Nat.{ℕ, zero, suc, ◌+◌, ◌/◌, ◌%◌, ◌^◌, ◌≤◌, ◌<◌}
use mathlib.Core.Bool.{Bool, true, false}
use mathlib.Core.Path.{◌≡◌, refl, ap, ◌∙◌}
use mathlib.Core.List.{List, [], ◌∷◌, ◌++◌}
use native.Mathlib.Omega.{arith, pow_step}
use lib.ListN.{length, length-append}
use lib.IntN.{ℤ, pos, negsuc}
use lib.Dec.{eqb, ltb}
use borrow.Author.Tests.{ltb-true, ltb-false, leb-false, eqb-true, not-false}
use Rattle.wire.specs.Outcome.{Outcome, ok, refused, ◌>>=◌}
use Rattle.wire.proofs.Meets.{Meets, good, fault, met, knowing, then, check, last}
use Rattle.opmsg.specs.Names.{same_text}
use Rattle.listing_lines.specs.Decimal.{digit, digits, decimal, signed_decimal}
use Rattle.listing_lines.specs.Fields.{tab, newline}
use Rattle.listing_fields.specs.Numbers.{until_newline, fields_of, field, spelled, is_signed32, number, between, signed_number}
use Rattle.listing_fields.proofs.Fields.{same_text_lem, until_end, joined, joined_fields}
use Rattle.listing_fields.proofs.Numbers.{signed_ok}
use Rattle.listing_stored.specs.Version.{Version}
use Rattle.listing_stored.specs.Stored.{Position, Rule, Kind, kinds, rule_of}
use Rattle.listing_stored.specs.Stored as rules
use Rattle.listing_stored.proofs.Judged.{judged, run, Cut, cut_of, empty, cut, rest, run_line, run_rest}

-- ---- numbers

digits_short : (j most n : ℕ) → n < 10 ^ suc j → length (digits most n) ≤ suc j
unfolding digits
digits_short j zero n l = omega arith
digits_short j (suc most) n l = go (ltb n 10) refl j l (λ i. digits_short i most (n / 10))
  where
    go : (b : Bool) → ltb n 10 ≡ b → (j : ℕ) → n < 10 ^ suc j → ((i : ℕ) → n / 10 < 10 ^ suc i → length (digits most (n / 10)) ≤ suc i)
        → length {A = ℕ} (elim b [ true ↦ digit n ∷ [] | false ↦ digits most (n / 10) ++ (digit (n % 10) ∷ []) ]) ≤ suc j
    go true e j l ih = omega arith
    go false e zero l ih = absurd (omega (arith, ltb-false n 10 e))
    go false e (suc j) l ih = omega (arith, ih j (omega (arith, pow_step 10 (suc j))), length-append (digits most (n / 10)) (digit (n % 10) ∷ []))

pub decimal_short : (n : ℕ) → n < 2 ^ 64 → length (decimal n) ≤ 20
unfolding decimal
decimal_short n l = digits_short 19 (suc n) n (omega arith)

signed_short : (z : ℤ) → is_signed32 z ≡ true → length (signed_decimal z) ≤ 21
unfolding is_signed32 signed_decimal
signed_short (pos n) h = omega (arith, decimal_short n (omega (arith, ltb-true n (2 ^ 31) h)))
signed_short (negsuc n) h = omega (arith, decimal_short (suc n) (omega (arith, ltb-true n (2 ^ 31) h)))

-- ---- lines by their fields

-- the bytes of the first fields, and one byte behind each
abbrev sizes : ℕ → List (List ℕ) → ℕ
sizes zero fs = 0
sizes (suc n) fs = sizes n fs + suc (length (field n fs))

sizes_next : (n : ℕ) (f : List ℕ) (fs : List (List ℕ)) → sizes (suc n) (f ∷ fs) ≡ suc (length f) + sizes n fs
sizes_next zero f fs = omega arith
sizes_next (suc n) f fs = omega (arith, sizes_next n f fs)

joined_sizes : (fs : List (List ℕ)) → length (joined fs) ≤ sizes (length fs) fs
unfolding joined
joined_sizes [] = omega arith
joined_sizes (f ∷ []) = omega arith
joined_sizes (f ∷ g ∷ fs) = omega (arith, length-append f (tab ∷ joined (g ∷ fs)), joined_sizes (g ∷ fs), sizes_next (length (g ∷ fs)) f (g ∷ fs))

sized : (fs : List (List ℕ)) (n : ℕ) → length fs ≡ n → length (joined fs) ≤ sizes n fs
sized fs n e = rw e at (joined_sizes fs)

-- ---- one line: a refusal is at its number; behind a good one, which is short, the next line comes, and at most one message more

abbrev pub At : (line number place : ℕ) → Type 0
At k number place = (number ≡ 38) × (place ≡ k)

-- from p to q by a good line of the text l
pub record Next (p : Position) (l : List ℕ) (q : Position) : Type 0 where
  pub line : q.line ≡ suc p.line
  pub messages : q.messages ≤ suc p.messages
  pub short : length l < 256

number_meets : (k : ℕ) (f : List ℕ) → Meets (λ (_ : ℕ). length f ≤ 20) (At k) (number k f)
unfolding number
number_meets k f =
    check 38 k _ _ (refl, refl) λ e.
    check 38 k _ _ (refl, refl) λ l.
    good (rw (same_text_lem f (decimal (spelled 0 f)) (not-false _ e)) (decimal_short (spelled 0 f) (leb-false (2 ^ 64) (spelled 0 f) l)))

between_meets : (k least most : ℕ) (f : List ℕ) → Meets (λ (_ : ℕ). length f ≤ 20) (At k) (between k least most f)
unfolding between
between_meets k least most f = then _ (number_meets k f) λ _ _ s. check 38 k _ _ (refl, refl) λ _. check 38 k _ _ (refl, refl) λ _. good s

signed_meets : (k : ℕ) (f : List ℕ) → Meets (λ (_ : Unit {0}). length f ≤ 21) (At k) (signed_number k f)
signed_meets k f = knowing at λ u h. let s = signed_ok k f u h in omega (arith, ap length s.0, signed_short _ s.1)
  where
    at : Meets (λ (_ : Unit {0}). Unit {0}) (At k) (signed_number k f)
    at = unfold signed_number in check 38 k _ _ (refl, refl) λ _. last 38 k _ (refl, refl)

-- rules for fields of which the first is a word
abbrev Ruled : Rule → Type 0
Ruled rule = (v : Version) (p : Position) (fs : List (List ℕ)) → length (field 0 fs) ≡ 3 → Meets (Next p (joined fs)) (At p.line) (rule v p fs)

message_ruled : Ruled rules.message
unfolding rules.message
message_ruled v p fs w =
    let k = p.line in
    check 38 k _ _ (refl, refl) λ n.
    then _ (between_meets k _ _ _) λ _ _ a.
    then _ (between_meets k _ _ _) λ _ _ b.
    then _ (signed_meets k _) λ _ _ c.
    then _ (signed_meets k _) λ _ _ d.
    then _ (number_meets k _) λ _ _ e.
    then _ (between_meets k _ _ _) λ _ _ f.
    then _ (between_meets k _ _ _) λ _ _ g.
    good (record { line = refl; messages = omega arith; short = omega (arith, sized fs 8 (eqb-true (length fs) 8 (not-false _ n))) })

big_ruled : Ruled rules.big
unfolding rules.big
big_ruled v p fs w =
    let k = p.line in
    check 38 k _ _ (refl, refl) λ _.
    check 38 k _ _ (refl, refl) λ n.
    then _ (between_meets k _ _ _) λ _ _ a.
    then _ (between_meets k _ _ _) λ _ _ b.
    good (record { line = refl; messages = omega arith; short = omega (arith, sized fs 3 (eqb-true (length fs) 3 (not-false _ n))) })

bad_ruled : Ruled rules.bad
unfolding rules.bad
bad_ruled v p fs w =
    let k = p.line in
    check 38 k _ _ (refl, refl) λ n.
    then _ (between_meets k _ _ _) λ _ _ a.
    then _ (number_meets k _) λ _ _ b.
    then _ (number_meets k _) λ _ _ c.
    good (record { line = refl; messages = omega arith; short = omega (arith, sized fs 4 (eqb-true (length fs) 4 (not-false _ n))) })

end_ruled : Ruled rules.end
unfolding rules.end
end_ruled v p fs w =
    let k = p.line in
    check 38 k _ _ (refl, refl) λ n.
    then _ (between_meets k _ _ _) λ _ _ a.
    good (record { line = refl; messages = omega arith; short = omega (arith, sized fs 2 (eqb-true (length fs) 2 (not-false _ n))) })

abbrev AllRuled : List Kind → Type 0
AllRuled [] = Unit {0}
AllRuled (kind ∷ ks) = Ruled kind.rule × (length kind.word ≡ 3) × AllRuled ks

rule_meets : (ks : List Kind) (k : ℕ) (w : List ℕ) → AllRuled ks → Meets (λ (rule : Rule). Ruled rule × (length w ≡ 3)) (At k) (rule_of ks k w)
unfolding rule_of
rule_meets [] k w a = fault (refl, refl)
rule_meets (kind ∷ ks) k w a = go (same_text w kind.word) refl (rule_meets ks k w a.2)
  where
    go : (b : Bool) → same_text w kind.word ≡ b → Meets (λ (rule : Rule). Ruled rule × (length w ≡ 3)) (At k) (rule_of ks k w)
        → Meets (λ (rule : Rule). Ruled rule × (length w ≡ 3)) (At k) (elim b [ true ↦ ok kind.rule | false ↦ rule_of ks k w ])
    go true e ih = good (a.0, ap length (same_text_lem w kind.word e) ∙ a.1)
    go false e ih = ih

kinds_ruled : AllRuled kinds
unfolding kinds
kinds_ruled = (message_ruled, refl, (big_ruled, refl, (bad_ruled, refl, (end_ruled, refl, tt))))

pub judged_meets : (v : Version) (p : Position) (l : List ℕ) → Meets (Next p l) (At p.line) (judged v p l)
unfolding judged
judged_meets v p l =
    let k = p.line in
    check 38 k _ _ (refl, refl) λ _.
    check 38 k _ _ (refl, refl) λ _.
    then _ (rule_meets kinds k (field 0 (fields_of l)) kinds_ruled) λ rule _ r.
    rw (joined_fields l) at (r.0 v p (fields_of l) r.1)

pub good_short : (v : Version) (p q : Position) (l : List ℕ) → judged v p l ≡ ok q → length l < 256
good_short v p q l h = (met (judged_meets v p l) h).short

-- ---- bytes without a newline

until_append : (s later : List ℕ) → length s ≤ until_newline s → length s ≤ until_newline (s ++ later)
unfolding until_newline
until_append [] later h = omega arith
until_append (x ∷ s) later h = go (eqb x newline) h (until_append s later)
  where
    go : (b : Bool) → suc (length s) ≤ elim b [ true ↦ zero | false ↦ suc (until_newline s) ] → (length s ≤ until_newline s → length s ≤ until_newline (s ++ later))
        → suc (length s) ≤ elim b [ true ↦ zero | false ↦ suc (until_newline (s ++ later)) ]
    go true h ih = absurd (omega arith)
    go false h ih = omega (arith, ih (omega arith))

-- where there are 256 of them, the line is refused, whatever comes behind them
pub long_refused : (v : Version) (s later : List ℕ) (p : Position) → 256 ≤ length s → length s ≤ until_newline s → run v (s ++ later) p ≡ refused 38 p.line
long_refused v s later p n h = go (s ++ later) (cut_of (s ++ later)) (omega (arith, until_append s later h)) (omega (arith, length-append s later))
  where
    stopped : (l ys : List ℕ) (o : Outcome Position) → Meets (Next p l) (At p.line) o → 256 ≤ length l → (o >>= run v ys) ≡ refused 38 p.line
    stopped l ys o (good m) n = absurd (omega (arith, m.short))
    stopped l ys o (fault f) n = unfold ◌>>=◌ in rw (f.0, f.1)

    go : (xs : List ℕ) → Cut xs → 256 ≤ until_newline xs → 256 ≤ length xs → run v xs p ≡ refused 38 p.line
    go xs empty u m = absurd (omega arith)
    go xs (cut l ys one) u m = run_line v l ys p one ∙ stopped l ys (judged v p l) (judged_meets v p l) (omega (arith, until_end l ys one))
    go xs (rest {x} {xs = ys} r) u m = run_rest v x ys p r
