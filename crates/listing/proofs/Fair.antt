-- One turn of a run: its line and what is still to be printed then are what was still to be printed before.
-- Assumes nothing.
use Prim.Native.Nat.{ℕ, ◌+◌, ◌-◌, ◌*◌, ◌<◌, ◌≤◌}
use mathlib.Core.Bool.{Bool, true, false, true≢false}
use mathlib.Core.Path.{◌≡◌, refl, sym, ap, ◌∙◌}
use mathlib.Core.List.{List, [], ◌++◌, append-nil}
use native.Mathlib.Omega.{arith}
use lib.ListN.{length, drop, length-append}
use lib.Seq.{drop-append-le, drop-append-add, drop-length}
use lib.Dec.{ltb, eqb}
use borrow.Author.Tests.{ltb-true, ltb-false, eqb-true, eqb-false, lt-ltb, le-ltb, ne_eqb}
use Rattle.wire.specs.Outcome.{Outcome, ok, refused}
use Rattle.listing_lines.specs.Lines.{message_line, big_line, bad_line, end_line}
use Rattle.listing_lines.specs.declared.Summary.{Summary}
use Rattle.opmsg.specs.Flags.{house}
use Rattle.opmsg.specs.Read.{read}
use Rattle.opmsg.specs.declared.View.{View}
use Rattle.listing.specs.Next.{short, long, step_of, judge, next}
use Rattle.listing.specs.Listing.{entries}
use Rattle.listing.specs.Run.{behind, passing, over, Turned, stepped, passed, turn}
use Rattle.listing.specs.declared.Run.{Run}
use Rattle.listing.specs.declared.Step.{Step}
use Rattle.listing.specs.declared.Step.TheVariants.{Message, Big, Bad, More, End}
use Rattle.listing.proofs.Settled.{settled}
use Rattle.listing.proofs.Rest.{message_within, big_some, told, told_message, told_bad, told_end, past, rest, told_passing}

-- ---- what comes next is what the whole stream says

-- more bytes are not waited for
abbrev Answer : Step → Type 0
Answer (Message m) = Unit {0}
Answer (Big n) = Unit {0}
Answer (Bad number place) = Unit {0}
Answer More = ⊥
Answer End = Unit {0}

of_reading : (o : Outcome View) → Answer (step_of o)
unfolding step_of
of_reading (ok v) = tt
of_reading (refused number place) = tt

judge_answers : (s : List ℕ) → Answer (judge s)
unfolding judge
judge_answers s = go (long s) refl
  where
    go : (b : Bool) → long s ≡ b → Answer (judge s)
    go true e = rw (judge, e) tt
    go false e = rw (judge, e) (of_reading (read house s))

-- nor are they where the stream has ended
ended_answers : (s : List ℕ) → Answer (next true s)
unfolding next
ended_answers s = go (eqb (length s) 0) refl
  where
    go : (b : Bool) → eqb (length s) 0 ≡ b → Answer (next true s)
    go true e = rw (next, e) tt
    go false e = rw (next, e) (judge_answers s)

waits : (s : List ℕ) → short s ≡ true → next false s ≡ More
unfolding next
waits s h = rw (next, h)

stands : (ended : Bool) (s later : List ℕ) (x : Step) → (ended ≡ true → later ≡ []) → next ended s ≡ x → Answer x → next true (s ++ later) ≡ x
stands true s later x none e a = rw (none refl, append-nil) e
stands false s later x none e a = go (short s) refl
  where
    go : (b : Bool) → short s ≡ b → next true (s ++ later) ≡ x
    go true h = absurd (rw (sym e ∙ waits s h) at a)
    go false h = settled s later h ∙ e

-- ---- what a turn does

-- one for a run that is inside no message
unfoldable pub outside : Run → ℕ
outside r = elim (eqb r.left 0) [ true ↦ 1 | false ↦ 0 ]

-- what is still to be printed behind a turn's line, where all that is left of the stream is x
unfoldable pub after : Turned → List ℕ → List ℕ
after t x = elim t.run.done [ true ↦ end_line t.run.messages | false ↦ rest t.run x ]

-- a turn that waits does so before the end of the stream, and one after which the run goes on has brought it on
abbrev pub Paced : Run → (ended : Bool) → List ℕ → Turned → (more : Bool) → Type 0
Paced r ended s t true = (ended ≡ false) × (outside t.run ≤ outside r)
Paced r ended s t false = t.run.done ≡ false → 2 * (length s - t.used) + outside t.run < 2 * length s + outside r

-- a turn t with the bytes s at hand prints its part and uses bytes that are there
pub record Fair (r : Run) (ended : Bool) (s : List ℕ) (t : Turned) : Type 0 where
  pub says : (later : List ℕ) → (ended ≡ true → later ≡ []) → rest r (s ++ later) ≡ t.line ++ after t (drop t.used s ++ later)
  pub within : t.used ≤ length s
  pub pace : Paced r ended s t t.more

-- a run that goes on
after_on : (t : Turned) (x : List ℕ) → t.run.done ≡ false → after t x ≡ rest t.run x
unfolding after rest
after_on t x d = rw (after, d)

-- ---- a run inside a message that is passed over

module _ (r : Run) (inside : eqb r.left 0 ≡ false) where
  some : 0 < r.left
  some = omega (arith, eqb-false r.left 0 inside)

  outside_none : outside r ≡ 0
  unfolding outside
  outside_none = rw (outside, inside)

  rest_past : (x : List ℕ) → r.left ≤ length x → rest r x ≡ past r (drop r.left x)
  unfolding rest
  rest_past x fits = rw (rest, inside, le-ltb (length x) r.left fits)

  rest_cut : (x : List ℕ) → length x < r.left → rest r x ≡ bad_line r.offset 3 0 ++ end_line r.messages
  unfolding rest
  rest_cut x cut = rw (rest, inside, lt-ltb (length x) r.left cut)

-- n bytes more of it are behind the run
abbrev further : Run → ℕ → Run
further r n = passing r.length (r.left - n) r

still_inside : (r : Run) (n : ℕ) → n < r.left → eqb (r.left - n) 0 ≡ false
still_inside r n h = ne_eqb (r.left - n) 0 (λ z. omega arith)

-- all bytes at hand are its own
rest_amid : (r : Run) (s later : List ℕ) → eqb r.left 0 ≡ false → length s < r.left → rest r (s ++ later) ≡ rest (further r (length s)) later
rest_amid r s later inside own = go (ltb (length later) (r.left - length s)) refl
  where
    on : eqb (r.left - length s) 0 ≡ false
    on = still_inside r (length s) own

    dropped : drop r.left (s ++ later) ≡ drop (r.left - length s) later
    dropped =
        let n : r.left ≡ length s + (r.left - length s) = omega arith in
        ap (λ (k : ℕ). drop k (s ++ later)) n ∙ drop-append-add s later (r.left - length s)

    go : (t : Bool) → ltb (length later) (r.left - length s) ≡ t → rest r (s ++ later) ≡ rest (further r (length s)) later
    go true l =
        let cut = ltb-true (length later) (r.left - length s) l in
        rest_cut r inside (s ++ later) (omega (arith, length-append s later)) ∙ sym (rest_cut (further r (length s)) on later cut)
    go false l =
        let fits = ltb-false (length later) (r.left - length s) l in
        rest_past r inside (s ++ later) (omega (arith, length-append s later))
        ∙ ap (past r) dropped
        ∙ sym (rest_past (further r (length s)) on later fits)

-- ---- outside of a message that is passed over

module _ (r : Run) (ended : Bool) (s : List ℕ) (free : eqb r.left 0 ≡ true) where
  outside_one : outside r ≡ 1
  unfolding outside
  outside_one = rw (outside, free)

  rest_told : (x : List ℕ) → rest r x ≡ told r.offset r.messages (entries x)
  unfolding rest
  rest_told x = rw (rest, free)

  fair_message : (m : Summary) → next ended s ≡ Message m → Fair r ended s (stepped r (Message m))
  unfolding stepped after outside rest
  fair_message m e =
      let w = message_within ended s m e in
      record {
        says = λ later none.
            rest_told (s ++ later)
            ∙ told_message r.offset r.messages (s ++ later) m (stands ended s later (Message m) none e tt)
            ∙ ap (λ (x : List ℕ). message_line r.offset m ++ told (r.offset + m.length) (r.messages + 1) (entries x)) (drop-append-le m.length s later w.1);
        within = w.1;
        pace = λ d. omega (arith, outside_one, w.0, w.1);
      }

  fair_big : (n : ℕ) → next ended s ≡ Big n → Fair r ended s (stepped r (Big n))
  unfolding stepped after
  fair_big n e =
      let inside : eqb n 0 ≡ false = ne_eqb n 0 (λ z. omega (arith, big_some ended s n e)) in
      record {
        says = λ later none. rest_told (s ++ later) ∙ told_passing r (s ++ later) n (stands ended s later (Big n) none e tt);
        within = omega arith;
        pace = λ d. omega (arith, outside_one, outside_none (passing n n r) inside);
      }

  fair_bad : (number place : ℕ) → next ended s ≡ Bad number place → Fair r ended s (stepped r (Bad number place))
  unfolding stepped after
  fair_bad number place e =
      record {
        says = λ later none. rest_told (s ++ later) ∙ told_bad r.offset r.messages (s ++ later) number place (stands ended s later (Bad number place) none e tt);
        within = omega arith;
        pace = λ d. absurd (true≢false d);
      }

  fair_end : next ended s ≡ End → Fair r ended s (stepped r End)
  unfolding stepped after
  fair_end e =
      record {
        says = λ later none. rest_told (s ++ later) ∙ told_end r.offset r.messages (s ++ later) (stands ended s later End none e tt);
        within = omega arith;
        pace = λ d. absurd (true≢false d);
      }

fair_more : (r : Run) (ended : Bool) (s : List ℕ) → r.done ≡ false → next ended s ≡ More → Fair r ended s (stepped r More)
unfolding stepped after
fair_more r true s d e = absurd (rw e at (ended_answers s))
fair_more r false s d e = record { says = λ later none. sym (after_on (stepped r More) (s ++ later) d); within = omega arith; pace = (refl, omega arith) }

fair_stepped : (r : Run) (ended : Bool) (s : List ℕ) → eqb r.left 0 ≡ true → r.done ≡ false → Fair r ended s (stepped r (next ended s))
fair_stepped r ended s free d = go (next ended s) refl
  where
    go : (x : Step) → next ended s ≡ x → Fair r ended s (stepped r x)
    go (Message m) e = fair_message r ended s free m e
    go (Big n) e = fair_big r ended s free n e
    go (Bad number place) e = fair_bad r ended s free number place e
    go More e = fair_more r ended s d e
    go End e = fair_end r ended s free e

-- ---- inside one

module _ (r : Run) (s : List ℕ) (inside : eqb r.left 0 ≡ false) where
  -- its last bytes are at hand
  fair_past : (ended : Bool) → r.left ≤ length s
      → Fair r ended s (record { run = behind r.length r; used = r.left; line = big_line r.offset r.length; more = false })
  unfolding after outside rest
  fair_past ended fits =
      record {
        says = λ later none.
            rest_past r inside (s ++ later) (omega (arith, length-append s later))
            ∙ ap (past r) (drop-append-le r.left s later fits);
        within = fits;
        pace = λ d. omega (arith, outside_none r inside, some r inside);
      }

  -- the stream ends inside it
  fair_cut : length s < r.left → Fair r true s (record { run = over r; used = length s; line = bad_line r.offset 3 0; more = false })
  unfolding after
  fair_cut cut =
      record {
        says = λ later none. rest_cut r inside (s ++ later) (omega (arith, length-append s later, ap length (none refl)));
        within = omega arith;
        pace = λ d. absurd (true≢false d);
      }

  -- all bytes at hand are its own
  fair_amid : length s < r.left → Fair r false s (record { run = further r (length s); used = length s; line = []; more = true })
  unfolding after
  fair_amid own =
      record {
        says = λ later none. rest_amid r s later inside own ∙ ap (λ (x : List ℕ). rest (further r (length s)) (x ++ later)) (sym (drop-length s));
        within = omega arith;
        pace = (refl, omega (arith, outside_none (further r (length s)) (still_inside r (length s) own)));
      }

  fair_passed : (ended : Bool) → Fair r ended s (passed r ended (length s))
  unfolding passed
  fair_passed ended = go (eqb (r.left - length s) 0) refl ended
    where
      go : (t : Bool) → eqb (r.left - length s) 0 ≡ t → (ended : Bool) → Fair r ended s (passed r ended (length s))
      go true e ended = rw (passed, e) (fair_past ended (omega (arith, eqb-true (r.left - length s) 0 e)))
      go false e true = rw (passed, e) (fair_cut (omega (arith, eqb-false (r.left - length s) 0 e)))
      go false e false = rw (passed, e) (fair_amid (omega (arith, eqb-false (r.left - length s) 0 e)))

-- every turn of a run that goes on
pub fair : (r : Run) (ended : Bool) (s : List ℕ) → r.done ≡ false → Fair r ended s (turn r ended s)
unfolding turn
fair r ended s d = go (eqb r.left 0) refl
  where
    go : (t : Bool) → eqb r.left 0 ≡ t → Fair r ended s (turn r ended s)
    go true e = rw (turn, e) (fair_stepped r ended s e d)
    go false e = rw (turn, e) (fair_passed r s e ended)
