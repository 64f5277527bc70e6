-- What is answered without waiting stands, whatever comes behind it.
-- Assumes nothing.
use Prim.Native.Nat.{ℕ, ◌+◌, ◌≤◌}
use mathlib.Core.Bool.{Bool, true, false, not, ◌&&◌, true≢false}
use mathlib.Core.Path.{◌≡◌, refl, sym, ap, ◌∙◌}
use mathlib.Core.List.{List, ◌++◌}
use native.Mathlib.Omega.{arith}
use lib.ListN.{length, take, length-append}
use lib.Seq.{take-append-le}
use lib.Dec.{ltb, leb}
use borrow.Author.Tests.{ltb-false, leb-false, le-ltb, lt-ltb, le-leb, ne_eqb}
use Rattle.wire.specs.Outcome.{refuse, ◌>>=◌}
use Rattle.wire.specs.Bytes.{under}
use Rattle.wire.proofs.Bytes.{word_at_front, under_false}
use Rattle.opmsg.specs.Flags.{house}
use Rattle.opmsg.specs.Layout.{max_length, message_length}
use Rattle.opmsg.specs.Read.{header, read}
use Rattle.opmsg.proofs.Front.{read_front}
use Rattle.listing.specs.Next.{buffer_length, short, long, step_of, judge, next}
use Rattle.listing.specs.Listing.{Settled}

module _ (s later : List ℕ) (head : 16 ≤ length s) where
  longer : length (s ++ later) ≡ length s + length later
  longer = length-append s later

  same_length : message_length (s ++ later) ≡ message_length s
  same_length = word_at_front 0 s later (omega arith)

  -- the length is refused
  too_small : under 16 (message_length s) ≡ true → read house (s ++ later) ≡ read house s
  unfolding read header ◌>>=◌ refuse
  too_small u = rw (same_length, le-ltb (length (s ++ later)) 16 (omega (arith, longer)), le-ltb (length s) 16 head, u)

  too_large : under 16 (message_length s) ≡ false → ltb max_length (message_length s) ≡ true → read house (s ++ later) ≡ read house s
  unfolding read header ◌>>=◌ refuse
  too_large u l = rw (same_length, le-ltb (length (s ++ later)) 16 (omega (arith, longer)), le-ltb (length s) 16 head, u, l)

  -- the message is whole
  whole : 16 ≤ message_length s → message_length s ≤ length s → read house (s ++ later) ≡ read house s
  whole least fits =
      let n = message_length s in
      let front : take (message_length (s ++ later)) (s ++ later) ≡ take n s = rw same_length (take-append-le n s later fits) in
      sym (read_front house (s ++ later) (omega (arith, same_length))) ∙ ap (read house) front ∙ read_front house s least

  -- a message is longer than the program can hold by the same bytes
  long_is : long s ≡ (leb (message_length s) max_length && ltb buffer_length (message_length s))
  unfolding long
  long_is = rw (le-leb 16 (length s) head)

  same_long : long (s ++ later) ≡ long s
  unfolding long
  same_long = rw (same_length, le-leb 16 (length s) head, le-leb 16 (length (s ++ later)) (omega (arith, longer)))

  same_read : (not (under 16 (message_length s)) && leb (message_length s) buffer_length && ltb (length s) (message_length s)) ≡ false → long s ≡ false
      → read house (s ++ later) ≡ read house s
  same_read h k =
      go (under 16 (message_length s)) refl (leb (message_length s) buffer_length) refl (ltb (length s) (message_length s)) refl h (leb (message_length s) max_length) refl (sym long_is ∙ k)
    where
      go : (a : Bool) → under 16 (message_length s) ≡ a → (b : Bool) → leb (message_length s) buffer_length ≡ b → (c : Bool) → ltb (length s) (message_length s) ≡ c
          → (not a && b && c) ≡ false → (d : Bool) → leb (message_length s) max_length ≡ d → (d && ltb buffer_length (message_length s)) ≡ false
          → read house (s ++ later) ≡ read house s
      go true u b l c w h d m k = too_small u
      go false u false l c w h false m k = too_large u (lt-ltb _ _ (leb-false (message_length s) max_length m))
      go false u false l c w h true m k =
          let big : ltb buffer_length (message_length s) ≡ true = lt-ltb _ _ (leb-false (message_length s) buffer_length l) in
          absurd (true≢false (sym big ∙ k))
      go false u true l false w h d m k = whole (under_false 16 (message_length s) u).0 (ltb-false (length s) (message_length s) w)
      go false u true l true w h d m k = absurd (true≢false h)

  same_judge : (not (under 16 (message_length s)) && leb (message_length s) buffer_length && ltb (length s) (message_length s)) ≡ false → judge (s ++ later) ≡ judge s
  unfolding judge
  same_judge h = go (long s) refl
    where
      go : (b : Bool) → long s ≡ b → judge (s ++ later) ≡ judge s
      go true e = rw (judge, same_long, e, same_length)
      go false e = rw (judge, same_long, e) (ap step_of (same_read h e))

pub settled : Settled
unfolding short next
settled s later h = go (ltb (length s) 16) refl h
  where
    go : (b : Bool) → ltb (length s) 16 ≡ b
        → ◌≡◌ {A = Bool} (elim b [ true ↦ true | false ↦ not (under 16 (message_length s)) && leb (message_length s) buffer_length && ltb (length s) (message_length s) ]) false
        → next true (s ++ later) ≡ next false s
    go true e f = absurd (true≢false f)
    go false e f =
        let head : 16 ≤ length s = ltb-false (length s) 16 e in
        rw (next, h, ne_eqb (length (s ++ later)) 0 (λ z. omega (arith, length-append s later)))
        (same_judge s later head f)
