-- Laws of reading line by line: a line is judged by its text, and a listing by its lines, one after the other.
-- Assumes nothing.
use Prim.Native.Nat.{ℕ, zero, suc, ◌+◌, ◌≤◌, ◌<◌}
use mathlib.Core.Bool.{Bool, true, false}
use mathlib.Core.Path.{◌≡◌, refl, sym, ap, ◌∙◌}
use mathlib.Core.List.{List, [], ◌∷◌, ◌++◌}
use native.Mathlib.Omega.{arith}
use lib.ListN.{length, take, drop, length-append, length-drop}
use lib.Seq.{take-append_seam, drop-append-add}
use lib.Dec.{leb}
use borrow.Author.Tests.{leb-true, leb-false, lt-leb, le-leb}
use Rattle.wire.specs.Outcome.{Outcome, ok, refused, ◌>>=◌}
use Rattle.wire.specs.Walk.{Step, step, walk}
use Rattle.wire.proofs.Outcome.{not_ok, ok_same, went, passed, pass, stop, halt, same_after, assoc}
use Rattle.wire.proofs.Walk.{walk_done, walk_step, step_size}
use Rattle.opmsg.specs.Names.{same_text}
use Rattle.listing_lines.specs.Words
use Rattle.listing_lines.specs.Fields.{newline}
use Rattle.listing_stored.specs.Version.{Version}
use Rattle.listing_fields.specs.Numbers.{until_newline, fields_of, field}
use Rattle.listing_stored.specs.Stored.{Position, Rule, Kind, kinds, rule_of, message, big, bad, end, line_at}
unfoldable pub use Rattle.listing_stored.specs.Inner.{judged, run}
use Rattle.listing_fields.proofs.Fields.{same_text_lem, OneLine, until_end, until_line, until_split}

-- the rule of a kind of line
pub rule_first : {P : Type 0} (kind : Kind) (rest : List Kind) (k : ℕ) (w : List ℕ) (r : Rule) → rule_of (kind ∷ rest) k w ≡ ok r
    → (w ≡ kind.word → kind.rule ≡ r → P) → (rule_of rest k w ≡ ok r → P) → P
unfolding rule_of
rule_first {P} kind rest k w r h this others = go (same_text w kind.word) refl h
  where
    go : (b : Bool) → same_text w kind.word ≡ b → ◌≡◌ {A = Outcome Rule} (elim b [ true ↦ ok kind.rule | false ↦ rule_of rest k w ]) (ok r) → P
    go true e h = this (same_text_lem w kind.word e) (ok_same h)
    go false e h = others h

pub chosen : {P : Type 0} (k : ℕ) (w : List ℕ) (r : Rule) → rule_of kinds k w ≡ ok r
    → (w ≡ Words.msg → message ≡ r → P) → (w ≡ Words.big → big ≡ r → P) → (w ≡ Words.bad → bad ≡ r → P) → (w ≡ Words.end → end ≡ r → P) → P
unfolding kinds
chosen k w r h m b d e =
    rule_first _ _ k w r h m λ h. rule_first _ _ k w r h b λ h. rule_first _ _ k w r h d λ h. rule_first _ _ k w r h e λ h. none h
  where
    none : {P : Type 0} → rule_of [] k w ≡ ok r → P
    none h = unfold rule_of in not_ok h

-- ---- one line

flat : {A B C D : Type 0} (a : Outcome A) (b : Outcome B) (r : Outcome C) (h : C → Outcome D) {E : Type 0} (g : D → Outcome E)
    → (a >>= λ _. b >>= λ _. r >>= λ x. h x >>= g) ≡ ((a >>= λ _. b >>= λ _. r >>= h) >>= g)
unfolding ◌>>=◌
flat (ok a) (ok b) (ok x) h g = refl
flat (ok a) (ok b) (refused n p) h g = refl
flat (ok a) (refused n p) r h g = refl
flat (refused n p) b r h g = refl

pub line_at_lem : (v : Version) (at : ℕ) (l ys : List ℕ) (p : Position) → OneLine l
    → line_at v at (l ++ newline ∷ ys) p ≡ (judged v p l >>= λ q. step (length l + 1) q)
unfolding line_at judged
line_at_lem v at l ys p one =
    let short : leb (length (l ++ newline ∷ ys)) (length l) ≡ false = lt-leb (length (l ++ newline ∷ ys)) (length l) (omega (arith, length-append l (newline ∷ ys))) in
    rw (until_end l ys one, take-append_seam l (newline ∷ ys))
    (pass 38 p.line _ short ∙ flat _ _ (rule_of kinds p.line (field 0 (fields_of l))) (λ rule. rule v p (fields_of l)) (λ q. step (length l + 1) q))

-- bytes by their first line
pub data Cut : List ℕ → Type 0 where
  empty : Cut []
  cut : (l ys : List ℕ) → OneLine l → Cut (l ++ newline ∷ ys)
  rest : {x : ℕ} {xs : List ℕ} → length (x ∷ xs) ≤ until_newline (x ∷ xs) → Cut (x ∷ xs)

pub cut_of : (xs : List ℕ) → Cut xs
cut_of [] = empty
cut_of (x ∷ xs) = go (leb (length (x ∷ xs)) (until_newline (x ∷ xs))) refl
  where
    go : (b : Bool) → leb (length (x ∷ xs)) (until_newline (x ∷ xs)) ≡ b → Cut (x ∷ xs)
    go true e = rest (leb-true _ _ e)
    go false e = rw (until_split (x ∷ xs) (leb-false _ _ e)) (cut (take (until_newline (x ∷ xs)) (x ∷ xs)) (drop (suc (until_newline (x ∷ xs))) (x ∷ xs)) (until_line (x ∷ xs)))

pub line_at_rest : (v : Version) (at : ℕ) (xs : List ℕ) (p : Position) → length xs ≤ until_newline xs → line_at v at xs p ≡ refused 38 p.line
unfolding line_at
line_at_rest v at xs p h = stop 38 p.line _ (le-leb _ _ h)

line_advances : (v : Version) (at : ℕ) (xs : List ℕ) (p : Position) (one : Step Position) → line_at v at xs p ≡ ok one → 0 < one.size
unfolding line_at
line_advances v at xs p one h =
    let a = passed _ _ _ _ h in
    let b = passed _ _ _ _ a.1 in
    let c = passed _ _ _ _ b.1 in
    let d = went _ _ c.1 in
    let e = went _ _ d.2 in
    omega (arith, step_size e.2)

-- ---- all lines

-- neither the place nor more turns than bytes change anything
pub walk_run : (v : Version) (m n at other : ℕ) (xs : List ℕ) (p : Position) → length xs ≤ m → length xs ≤ n → walk (line_at v) m at xs p ≡ walk (line_at v) n other xs p
walk_run v zero n at other [] p k l = walk_done (line_at v) zero at p ∙ sym (walk_done (line_at v) n other p)
walk_run v zero n at other (x ∷ xs) p k l = absurd (omega arith)
walk_run v (suc m) n at other [] p k l = walk_done (line_at v) (suc m) at p ∙ sym (walk_done (line_at v) n other p)
walk_run v (suc m) zero at other (x ∷ xs) p k l = absurd (omega arith)
walk_run v (suc m) (suc n) at other (x ∷ xs) p k l =
    walk_step (line_at v) m at (x ∷ xs) p (omega arith)
    ∙ same_after (line_at v at (x ∷ xs) p) _ _ (λ one e.
    let some = line_advances v at (x ∷ xs) p one e in
    walk_run v m n (at + one.size) (other + one.size) (drop one.size (x ∷ xs)) one.state (rw length-drop (omega arith)) (rw length-drop (omega arith)))
    ∙ sym (walk_step (line_at v) n other (x ∷ xs) p (omega arith) ∙ rw (same_at v at other (x ∷ xs) p))
  where
    same_at : (v : Version) (at other : ℕ) (xs : List ℕ) (p : Position) → line_at v other xs p ≡ line_at v at xs p
    same_at v at other xs p = unfold line_at in refl

pub run_empty : (v : Version) (p : Position) → run v [] p ≡ ok p
unfolding run
run_empty v p = walk_done (line_at v) 0 0 p

pub run_rest : (v : Version) (x : ℕ) (xs : List ℕ) (p : Position) → length (x ∷ xs) ≤ until_newline (x ∷ xs) → run v (x ∷ xs) p ≡ refused 38 p.line
unfolding run
run_rest v x xs p h = walk_step (line_at v) (length xs) 0 (x ∷ xs) p (omega arith) ∙ halt _ (line_at_rest v 0 (x ∷ xs) p h)

pub run_line : (v : Version) (l ys : List ℕ) (p : Position) → OneLine l → run v (l ++ newline ∷ ys) p ≡ (judged v p l >>= run v ys)
unfolding run ◌>>=◌
run_line v l ys p one =
    let n = length-append l (newline ∷ ys) in
    let t = length l + length ys in
    let some : length (l ++ newline ∷ ys) ≡ suc t = omega arith in
    let past : drop (length l + 1) (l ++ newline ∷ ys) ≡ ys = drop-append-add l (newline ∷ ys) 1 in
    let then : Step Position → Outcome Position = λ one. walk (line_at v) t (0 + one.size) (drop one.size (l ++ newline ∷ ys)) one.state in
    rw some (walk_step (line_at v) t 0 (l ++ newline ∷ ys) p (omega arith)
    ∙ ap (λ (o : Outcome (Step Position)). o >>= then) (line_at_lem v 0 l ys p one)
    ∙ assoc (judged v p l) (λ q. step (length l + 1) q) then
    ∙ same_after (judged v p l) (λ q. step (length l + 1) q >>= then) (run v ys)
    (λ q e. rw past (walk_run v t (length ys) (0 + (length l + 1)) 0 ys q (omega arith) (omega arith))))
