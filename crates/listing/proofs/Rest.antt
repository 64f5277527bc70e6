-- What is still to be printed of a stream, by where a run over it stands.
-- Assumes nothing.
use Prim.Native.Nat.{ℕ, zero, suc, ◌+◌, ◌<◌, ◌≤◌}
use mathlib.Core.Bool.{Bool, true, false}
use mathlib.Core.Path.{◌≡◌, refl, ap, ◌∙◌}
use mathlib.Core.List.{List, [], ◌∷◌, ◌++◌, append_assoc}
use native.Mathlib.Omega.{arith}
use lib.ListN.{length, drop, length-drop}
use lib.Dec.{ltb, eqb}
use borrow.Author.Tests.{ltb-true, ltb-false, lt-ltb, le-ltb, ne_eqb}
use Rattle.listing_lines.specs.Lines.{message_line, big_line, bad_line, end_line}
use Rattle.listing_lines.specs.declared.Summary.{Summary}
use Rattle.listing.specs.Next.{next}
use Rattle.listing.specs.Inner.{StepWithin}
use Rattle.listing.specs.Listing.{Entry, message, big, bad, entries_of, entries, messages_of, lines}
use Rattle.listing.specs.Run.{passing}
use Rattle.listing.specs.declared.Run.{Run}
use Rattle.listing.specs.declared.Step.{Step}
use Rattle.listing.specs.declared.Step.TheVariants.{Message, Big, Bad, More, End}
use Rattle.listing.proofs.Next.{next_within}

-- a message that comes next lies within the bytes, and one that is passed over has some
pub message_within : (ended : Bool) (s : List ℕ) (m : Summary) → next ended s ≡ Message m → (0 < m.length) × (m.length ≤ length s)
message_within ended s m e = let w : StepWithin (length s) (Message m) = rw e at (next_within ended s) in (w.0, w.1)

pub big_some : (ended : Bool) (s : List ℕ) (n : ℕ) → next ended s ≡ Big n → 0 < n
big_some ended s n e = let w : StepWithin (length s) (Big n) = rw e at (next_within ended s) in omega (arith, w.0)

-- turns that tell the same of every shorter rest tell the same
one_turn : (a b : ℕ) (s : List ℕ) → ((n : ℕ) → 0 < n → n ≤ length s → entries_of a (drop n s) ≡ entries_of b (drop n s)) → entries_of (suc a) s ≡ entries_of (suc b) s
unfolding entries_of
one_turn a b s same = go (next true s) refl
  where
    passed : (n : ℕ) → next true s ≡ Big n → (t : Bool) → ltb (length s) n ≡ t → entries_of (suc a) s ≡ entries_of (suc b) s
    passed n e true l = rw (entries_of, e, l)
    passed n e false l = rw (entries_of, e, l) (ap (λ (es : List Entry). big n ∷ es) (same n (big_some true s n e) (ltb-false (length s) n l)))

    go : (x : Step) → next true s ≡ x → entries_of (suc a) s ≡ entries_of (suc b) s
    go (Message m) e = let w = message_within true s m e in rw (entries_of, e) (ap (λ (es : List Entry). message m ∷ es) (same m.length w.0 w.1))
    go (Big n) e = passed n e (ltb (length s) n) refl
    go (Bad number place) e = rw (entries_of, e)
    go More e = rw (entries_of, e)
    go End e = rw (entries_of, e)

-- more turns than bytes change nothing
more_turns : (a b : ℕ) (s : List ℕ) → length s < a → length s < b → entries_of a s ≡ entries_of b s
more_turns zero b s p q = absurd (omega arith)
more_turns (suc a) zero s p q = absurd (omega arith)
more_turns (suc a) (suc b) s p q =
    one_turn a b s (λ n some fits. more_turns a b (drop n s) (omega (arith, length-drop n s)) (omega (arith, length-drop n s)))

-- ---- what is told of a stream, by what comes next

-- the turns that are left are enough for what is left
behind_it : (n : ℕ) (s : List ℕ) → 0 < n → n ≤ length s → entries_of (length s) (drop n s) ≡ entries (drop n s)
unfolding entries
behind_it n s some fits = more_turns (length s) (suc (length (drop n s))) (drop n s) (omega (arith, length-drop n s)) (omega arith)

entries_message : (s : List ℕ) (m : Summary) → next true s ≡ Message m → entries s ≡ message m ∷ entries (drop m.length s)
unfolding entries_of entries
entries_message s m e = let w = message_within true s m e in rw (entries, entries_of, e) (ap (λ (es : List Entry). message m ∷ es) (behind_it m.length s w.0 w.1))

entries_big : (s : List ℕ) (n : ℕ) → next true s ≡ Big n → n ≤ length s → entries s ≡ big n ∷ entries (drop n s)
unfolding entries_of entries
entries_big s n e fits = rw (entries, entries_of, e, le-ltb (length s) n fits) (ap (λ (es : List Entry). big n ∷ es) (behind_it n s (big_some true s n e) fits))

entries_cut : (s : List ℕ) (n : ℕ) → next true s ≡ Big n → length s < n → entries s ≡ bad 3 0 ∷ []
unfolding entries_of entries
entries_cut s n e cut = rw (entries, entries_of, e, lt-ltb (length s) n cut)

entries_bad : (s : List ℕ) (number place : ℕ) → next true s ≡ Bad number place → entries s ≡ bad number place ∷ []
unfolding entries_of entries
entries_bad s number place e = rw (entries, entries_of, e)

entries_end : (s : List ℕ) → next true s ≡ End → entries s ≡ []
unfolding entries_of entries
entries_end s e = rw (entries, entries_of, e)

-- ---- what is printed of it

-- the lines of entries and the last line, where so many bytes and messages are behind
unfoldable pub told : (offset messages : ℕ) → List Entry → List ℕ
told offset messages es = lines offset es ++ end_line (messages + messages_of es)

-- one more message is behind
counted : (offset k : ℕ) (l : List ℕ) (es : List Entry) → (l ++ lines offset es) ++ end_line (k + suc (messages_of es)) ≡ l ++ told offset (k + 1) es
unfolding told
counted offset k l es =
    let n : k + suc (messages_of es) ≡ k + 1 + messages_of es = omega arith in
    append_assoc l (lines offset es) (end_line (k + suc (messages_of es))) ∙ ap (λ (j : ℕ). l ++ (lines offset es ++ end_line j)) n

module _ (offset k : ℕ) (s : List ℕ) where
  pub told_message : (m : Summary) → next true s ≡ Message m
      → told offset k (entries s) ≡ message_line offset m ++ told (offset + m.length) (k + 1) (entries (drop m.length s))
  unfolding told lines messages_of
  told_message m e = rw (entries_message s m e) (counted (offset + m.length) k (message_line offset m) (entries (drop m.length s)))

  told_big : (n : ℕ) → next true s ≡ Big n → n ≤ length s → told offset k (entries s) ≡ big_line offset n ++ told (offset + n) (k + 1) (entries (drop n s))
  unfolding told lines messages_of
  told_big n e fits = rw (entries_big s n e fits) (counted (offset + n) k (big_line offset n) (entries (drop n s)))

  told_only : (number place : ℕ) → entries s ≡ bad number place ∷ [] → told offset k (entries s) ≡ bad_line offset number place ++ end_line k
  unfolding told lines messages_of
  told_only number place e = rw e (append_assoc (bad_line offset number place) [] (end_line (k + 0)) ∙ ap (λ (j : ℕ). bad_line offset number place ++ end_line j) (omega arith))

  pub told_bad : (number place : ℕ) → next true s ≡ Bad number place → told offset k (entries s) ≡ bad_line offset number place ++ end_line k
  told_bad number place e = told_only number place (entries_bad s number place e)

  pub told_end : next true s ≡ End → told offset k (entries s) ≡ end_line k
  unfolding told lines messages_of
  told_end e = rw (entries_end s e) (ap end_line (omega arith))

-- the message that is passed over has passed, and behind it is x
abbrev pub past : Run → List ℕ → List ℕ
past r x = big_line r.offset r.length ++ told (r.offset + r.length) (r.messages + 1) (entries x)

-- what is still to be printed where all that is left of the stream is x: what is told of it; inside a message that is passed over, x may end
-- before that message
unfoldable pub rest : Run → List ℕ → List ℕ
rest r x =
    elim (eqb r.left 0) [
      | true ↦ told r.offset r.messages (entries x)
      | false ↦ elim (ltb (length x) r.left) [ true ↦ bad_line r.offset 3 0 ++ end_line r.messages | false ↦ past r (drop r.left x) ]
    ]

-- a message that is to be passed over comes next
pub told_passing : (r : Run) (s : List ℕ) (n : ℕ) → next true s ≡ Big n → told r.offset r.messages (entries s) ≡ rest (passing n n r) s
unfolding rest
told_passing r s n e = go (ltb (length s) n) refl
  where
    some : eqb n 0 ≡ false
    some = ne_eqb n 0 (λ z. omega (arith, big_some true s n e))

    go : (t : Bool) → ltb (length s) n ≡ t → told r.offset r.messages (entries s) ≡ rest (passing n n r) s
    go true l = rw (rest, some, l) (told_only r.offset r.messages s 3 0 (entries_cut s n e (ltb-true (length s) n l)))
    go false l = rw (rest, some, l) (told_big r.offset r.messages s n e (ltb-false (length s) n l))
