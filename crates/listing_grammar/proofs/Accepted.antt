-- The reader accepts exactly the listings of `Grammar.antt`, and answers their version and messages.
-- Assumes nothing.
use Prim.Native.Nat.{ℕ, zero, suc, ◌+◌, ◌≤◌, ◌<◌}
use mathlib.Core.Bool.{Bool, true, false}
use mathlib.Core.Path.{◌≡◌, refl, sym, ap, ◌∙◌, subst₃}
use mathlib.Core.Logic.{◌↔◌}
use mathlib.Core.List.{List, [], ◌∷◌, ◌++◌, append_assoc, append-nil, Memᴰ}
use native.Mathlib.Omega.{arith}
use native.Mathlib.Nat.{add-zero, zero-add}
use lib.ListN.{length, drop, length-append}
use Rattle.wire.specs.Outcome.{ok}
use Rattle.wire.proofs.Outcome.{not_ok, ok_same, went, go_on}
use Rattle.listing_lines.specs.Fields.{newline}
use Rattle.listing_lines.specs.Lines.{first_line, message_line, big_line, bad_line, end_line}
use Rattle.listing.specs.Listing.{Entry, messages_of, lines, listed}
use Rattle.listing_stored.specs.Version.{Version, versions}
use Rattle.listing_stored.specs.Stored.{Position, start, Told, read_listing}
use Rattle.listing_fields.proofs.Fields.{joined}
use Rattle.listing_stored.proofs.Judged.{Cut, cut_of, empty, cut, rest, run, run_empty, run_line, run_rest}
use Rattle.listing_stored.proofs.Versions.{version_found, answered, read_run, read_behind, answered_ok, answered_ended}
use Rattle.listing_grammar.specs.Grammar.{Unsigned64, Entries, Listing}
use Rattle.listing_grammar.proofs.Entered.{going, closing, over, end_fields, Entered, entered, Small, small, judged_entered, closed, judged_closing, judged_over, message_line_lem, big_line_lem, bad_line_lem, end_line_lem, one_line, end_one_line}

-- ---- what is accepted is a listing

no {ℓ} : {A : Type ℓ} → ◌≡◌ {A = Bool} false true → A
no e = let z : ◌≡◌ {A = ℕ} 0 1 = cc in absurd (omega arith)

-- nothing stands behind `end`
over_run : (v : Version) (k o m : ℕ) (b : Bool) (xs : List ℕ) (q : Position) → run v xs (over k o m b) ≡ ok q → (xs ≡ []) × (q.messages ≡ m)
over_run v k o m b xs q h = go xs (cut_of xs) h
  where
    go : (xs : List ℕ) → Cut xs → run v xs (over k o m b) ≡ ok q → (xs ≡ []) × (q.messages ≡ m)
    go xs empty h = (refl, ap (λ (p : Position). p.messages) (sym (ok_same (sym (run_empty v (over k o m b)) ∙ h))))
    go xs (cut l ys one) h = not_ok (sym (judged_over v k o m b l) ∙ (went _ _ (sym (run_line v l ys (over k o m b) one) ∙ h)).1)
    go xs (rest {x} {xs = ys} l) h = not_ok (sym (run_rest v x ys (over k o m b) l) ∙ h)

-- and only `end` behind `bad`
closing_run : (v : Version) (k o m : ℕ) (xs : List ℕ) (q : Position) → run v xs (closing k o m) ≡ ok q → q.ended ≡ true
    → (xs ≡ end_line m) × Unsigned64 m × (q.messages ≡ m)
closing_run v k o m xs q h e = go xs (cut_of xs) h
  where
    go : (xs : List ℕ) → Cut xs → run v xs (closing k o m) ≡ ok q → (xs ≡ end_line m) × Unsigned64 m × (q.messages ≡ m)
    go xs empty h = no (ap (λ (p : Position). p.ended) (ok_same (sym (run_empty v (closing k o m)) ∙ h)) ∙ e)
    go xs (cut l ys one) h =
        let w = went _ _ (sym (run_line v l ys (closing k o m) one) ∙ h) in
        let c = closed v k o m l w.0 w.1 in
        let r = over_run v (suc k) o m true ys q (ap (run v ys) c.2 ∙ w.2) in
        (rw (r.0, ← c.0) (sym (end_line_lem m)), c.1, r.1)
    go xs (rest {x} {xs = ys} l) h = not_ok (sym (run_rest v x ys (closing k o m) l) ∙ h)

-- entries whose lines, and `end`, are xs
record ToldBy (v : Version) (o m : ℕ) (xs : List ℕ) (messages : ℕ) : Type 0 where
  es : List Entry
  allowed : Entries v o es
  is : xs ≡ lines o es ++ end_line (m + messages_of es)
  fits : Unsigned64 (m + messages_of es)
  count : messages ≡ m + messages_of es

shift : (m n : ℕ) → suc m + n ≡ m + suc n
shift m n = omega arith

module _ (v : Version) (q : Position) (e : q.ended ≡ true) where
  -- what is known of bytes that are fewer
  abbrev Known : ℕ → Type 0
  Known most = (k o m : ℕ) (ys : List ℕ) → length ys < most → run v ys (going k o m) ≡ ok q → ToldBy v o m ys q.messages

  enter : (most k o m : ℕ) → Known most → (l ys : List ℕ) (p : Position) → length ys < most → Entered v k o m l p → run v ys p ≡ ok q
      → ToldBy v o m (l ++ newline ∷ ys) q.messages
  unfolding lines messages_of
  enter most k o m ih l ys p n (Entered.message s u a) h =
      let t = ih (suc k) (o + s.length) (suc m) ys n h in
      let c = shift m (messages_of t.es) in
      record {
        es = Entry.message s ∷ t.es;
        allowed = Entries.message u a t.allowed;
        is =
            sym (message_line_lem o s ys) ∙ ap (λ (r : List ℕ). message_line o s ++ r) (t.is ∙ rw c)
            ∙ sym (append_assoc (message_line o s) (lines (o + s.length) t.es) (end_line (m + suc (messages_of t.es))));
        fits = rw c at t.fits;
        count = t.count ∙ c;
      }
  enter most k o m ih l ys p n (Entered.big size u b low high) h =
      let t = ih (suc k) (o + size) (suc m) ys n h in
      let c = shift m (messages_of t.es) in
      record {
        es = Entry.big size ∷ t.es;
        allowed = Entries.big u b low high t.allowed;
        is =
            sym (big_line_lem o size ys) ∙ ap (λ (r : List ℕ). big_line o size ++ r) (t.is ∙ rw c)
            ∙ sym (append_assoc (big_line o size) (lines (o + size) t.es) (end_line (m + suc (messages_of t.es))));
        fits = rw c at t.fits;
        count = t.count ∙ c;
      }
  enter most k o m ih l ys p n (Entered.bad number place u i j) h =
      let t = closing_run v (suc k) o m ys q h e in
      record {
        es = Entry.bad number place ∷ [];
        allowed = Entries.bad u i j;
        is = sym (bad_line_lem o number place ys) ∙ rw (t.0, add-zero m, append-nil (bad_line o number place));
        fits = rw (add-zero m) t.1;
        count = rw (add-zero m) t.2;
      }
  enter most k o m ih l ys p n (Entered.end u) h =
      let t = over_run v (suc k) o m false ys q h in
      record {
        es = [];
        allowed = Entries.none;
        is = rw (t.0, add-zero m) (sym (end_line_lem m));
        fits = rw (add-zero m) u;
        count = rw (add-zero m) t.1;
      }

  turn : (most k o m : ℕ) → Known most → (xs : List ℕ) → Cut xs → length xs ≤ most → run v xs (going k o m) ≡ ok q → ToldBy v o m xs q.messages
  turn most k o m ih xs empty n h = no (ap (λ (p : Position). p.ended) (ok_same (sym (run_empty v (going k o m)) ∙ h)) ∙ e)
  turn most k o m ih xs (cut l ys one) n h =
      let w = went _ _ (sym (run_line v l ys (going k o m) one) ∙ h) in
      enter most k o m ih l ys w.0 (omega (arith, length-append l (newline ∷ ys))) (entered v k o m l w.0 w.1) w.2
  turn most k o m ih xs (rest {x} {xs = ys} l) n h = not_ok (sym (run_rest v x ys (going k o m) l) ∙ h)

  going_run : (most k o m : ℕ) (xs : List ℕ) → length xs ≤ most → run v xs (going k o m) ≡ ok q → ToldBy v o m xs q.messages
  going_run zero k o m xs n h = turn zero k o m (λ k o m ys n h. absurd (omega arith)) xs (cut_of xs) n h
  going_run (suc most) k o m xs n h = turn (suc most) k o m (λ k o m ys n h. going_run most k o m ys (omega arith) h) xs (cut_of xs) n h

-- ---- a listing is accepted

-- what entries lead to
pub record Ran (v : Version) (k o m : ℕ) (es : List Entry) : Type 0 where
  pub behind : Position
  pub runs : run v (lines o es ++ end_line (m + messages_of es)) (going k o m) ≡ ok behind
  pub ended : behind.ended ≡ true
  pub count : behind.messages ≡ m + messages_of es

pub ran : {v : Version} {o : ℕ} {es : List Entry} → Small v → (k m : ℕ) → Unsigned64 (m + messages_of es) → Entries v o es → Ran v k o m es
unfolding lines messages_of
ran {v} {o} small k m f Entries.none =
    let u : Unsigned64 m = omega arith in
    record {
      behind = over (suc k) o m false;
      runs =
          rw (add-zero m, end_line_lem m) (run_line v (joined (end_fields m)) [] (going k o m) (end_one_line m)
          ∙ go_on _ (judged_entered {k = k} {o = o} small (Entered.end u))
          ∙ run_empty v (over (suc k) o m false));
      ended = refl;
      count = sym (add-zero m);
    }
ran {v} {o} small k m f (Entries.message {m = s} {es} u a r) =
    let c = shift m (messages_of es) in
    let t = ran small (suc k) (suc m) (rw c f) r in
    let w : Entered v k o m _ _ = Entered.message s u a in
    let more = lines (o + s.length) es in
    let last = end_line (m + suc (messages_of es)) in
    record {
      behind = t.behind;
      runs =
          rw (append_assoc (message_line o s) more last, message_line_lem o s (more ++ last), ← c) (run_line v _ _ (going k o m) (one_line w)
          ∙ go_on _ (judged_entered small w)
          ∙ t.runs);
      ended = t.ended;
      count = t.count ∙ c;
    }
ran {v} {o} small k m f (Entries.big {size} {es} u b low high r) =
    let c = shift m (messages_of es) in
    let t = ran small (suc k) (suc m) (rw c f) r in
    let w : Entered v k o m _ _ = Entered.big size u b low high in
    record {
      behind = t.behind;
      runs =
          rw (append_assoc (big_line o size) (lines (o + size) es) (end_line (m + suc (messages_of es))), big_line_lem o size (lines (o + size) es ++ end_line (m + suc (messages_of es))), ← c) (run_line v _ _ (going k o m) (one_line w)
          ∙ go_on _ (judged_entered small w)
          ∙ t.runs);
      ended = t.ended;
      count = t.count ∙ c;
    }
ran {v} {o} small k m f (Entries.bad {number} {place} u i j) =
    let w : Entered v k o m _ _ = Entered.bad number place u i j in
    let n : Unsigned64 m = omega arith in
    record {
      behind = over (suc (suc k)) o m true;
      runs =
          rw (add-zero m, append-nil (bad_line o number place), bad_line_lem o number place (end_line m), end_line_lem m) (run_line v _ _ (going k o m) (one_line w)
          ∙ go_on _ (judged_entered small w)
          ∙ run_line v _ _ (closing (suc k) o m) (end_one_line m)
          ∙ go_on _ (judged_closing v (suc k) o m n)
          ∙ run_empty v (over (suc (suc k)) o m true));
      ended = refl;
      count = sym (add-zero m);
    }

-- ---- both ways

-- a first line and what was told behind it
whole : (v : Version) (r : List ℕ) (messages : ℕ) (b : ToldBy v 0 0 r messages) → listed v.number b.es ≡ first_line v.number ++ r
unfolding listed
whole v r messages b =
    append_assoc (first_line v.number) (lines 0 b.es) (end_line (messages_of b.es))
    ∙ ap (λ (l : List ℕ). first_line v.number ++ l) (rw (← zero-add (messages_of b.es)) (sym b.is))

pub is_listing : (s : List ℕ) (t : Told) → read_listing s ≡ ok t → Listing t.version t.messages s
unfolding read_listing
is_listing s t h =
    let v = (went _ _ h).0 in
    let found = (went _ _ h).1 in
    let first = version_found s versions v found in
    let r = drop (length (first_line v.number)) s in
    let w = went (run v r start) (answered v) (sym (read_run s v found) ∙ h) in
    let a = answered_ok v w.0 t w.2 in
    let b = going_run v w.0 a.0 (length r) 2 0 0 r (omega arith) w.1 in
    told_by s t v first.0 first.1 w.0.messages a.1 b
  where
    told_by : (s : List ℕ) (t : Told) (v : Version) → Memᴰ v versions → first_line v.number ++ drop (length (first_line v.number)) s ≡ s → (messages : ℕ)
        → record { version = v.number; messages = messages } ≡ t → ToldBy v 0 0 (drop (length (first_line v.number)) s) messages → Listing t.version t.messages s
    told_by s t v m first messages same b =
        let n : messages_of b.es ≡ t.messages = sym (b.count ∙ zero-add _) ∙ ap (λ (x : Told). x.messages) same in
        subst₃ Listing (ap (λ (x : Told). x.version) same) n (whole v _ messages b ∙ first) (Listing.listing m b.allowed (omega (arith, b.fits)))

pub is_accepted : {version messages : ℕ} {s : List ℕ} → Listing version messages s → read_listing s ≡ ok (record { version = version; messages = messages })
unfolding listed
is_accepted (Listing.listing {v} {es} m a u) =
    let t = ran (small v m) 2 0 (rw zero-add u) a in
    let r : run v (lines 0 es ++ end_line (messages_of es)) start ≡ ok t.behind = rw zero-add at t.runs in
    let n : t.behind.messages ≡ messages_of es = t.count ∙ zero-add _ in
    ap read_listing (append_assoc (first_line v.number) (lines 0 es) (end_line (messages_of es)))
    ∙ read_behind v (lines 0 es ++ end_line (messages_of es)) m ∙ go_on (answered v) r ∙ answered_ended v t.behind t.ended
    ∙ ap (λ (x : ℕ). ok (record { version = v.number; messages = x })) n

pub accepted : (s : List ℕ) (t : Told) → (read_listing s ≡ ok t) ↔ Listing t.version t.messages s
accepted s t = (is_listing s t, is_accepted)
