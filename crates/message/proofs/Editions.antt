-- Demand 3: what an older and a newer edition make of one message, and two relays one behind the other.
-- Assumes nothing.
use Prim.Native.Nat.{ℕ}
use mathlib.Core.Bool.{Bool, true, false, not}
use mathlib.Core.Path.{◌≡◌, refl, sym, ap, ◌∙◌}
use mathlib.Core.List.{List, [], ◌∷◌}
use mathlib.Core.Logic.{◌↔◌}
use native.Mathlib.Omega.{arith}
use lib.Dec.{T}
use Rattle.wire.specs.Outcome.{ok, refused}
use Rattle.wire.proofs.Outcome.{ok_same, passed, went, pass, stop, go_on, halt}
use Rattle.opmsg.specs.Flags.{kept, all_known, knows}
use Rattle.opmsg.specs.Layout.{flag_word}
use Rattle.opmsg.specs.Sections.{place_of}
use Rattle.opmsg.specs.View.{sections_of}
use Rattle.opmsg.specs.Read.{read}
use Rattle.opmsg.proofs.SectionRead.{kind_of}
use Rattle.opmsg.proofs.Bits.{Known, all_known_known, known_all_known, bits_known, known_bits, kept_swap, kept_within, kept_known, kept_known'}
use Rattle.message.specs.Forward.{forwarded}
use Rattle.message.specs.Editions.{Newer, Accepts, KnowsBits, knows_kind, KnowsKinds, FirstUnknown, with_flags, Room, sent}
use Rattle.message.specs.Demand3.{Demand3}
use Rattle.opmsg.specs.declared.Edition.{Edition}
use Rattle.opmsg.specs.declared.Section.{Section}
use Rattle.opmsg.specs.declared.View.{View}
use Rattle.message.proofs.Answers.{knows_kind_lem, kinds_known, kinds_known_lem, read_answer, accepts_kinds}
use Rattle.message.proofs.Forwarded.{required, view_flags, forwarded_again, forwarded_answer, sent_forwarded}

-- ---- the older edition, and a message that the newer accepts

newer_bits : {new old : Edition} → Newer new old → Known 32 old.bits new.bits
newer_bits {new} {old} n = bits_known 32 old.bits new.bits n.bits

-- an edition that knows at least the kinds that another knows
pub more_kinds : (a b : Edition) (qs : List Section) → ((kind : ℕ) → T (knows a kind) → T (knows b kind)) → KnowsKinds a qs → KnowsKinds b qs
more_kinds a b [] n k = tt
more_kinds a b (q ∷ qs) n k = (rw (knows_kind_lem b q) (n (kind_of q) (rw (knows_kind_lem a q) at k.0)), more_kinds a b qs n k.1)

-- an edition that accepts a message knows its required bits
pub required_bits : (e : Edition) (s : List ℕ) (v : View) → read e s ≡ ok v → KnowsBits 16 e s
required_bits e s v h = known_bits 16 (flag_word s) e.bits (required e s v h)

module _ (new old : Edition) (s : List ℕ) (v : View) (h : read new s ≡ ok v) where
  knows_required : KnowsBits 16 old s → not (all_known 16 old.bits (flag_word s)) ≡ false
  knows_required b = known_all_known 16 old.bits (flag_word s) (bits_known 16 (flag_word s) old.bits b)

  -- an edition that knows the required bits and the kinds of a message accepts it
  pub knowing_accepts : KnowsBits 16 old s → KnowsKinds old (sections_of v) → read old s ≡ ok (with_flags v (kept old.bits (flag_word s)))
  knowing_accepts b k = read_answer new old s v h ∙ pass 8 16 _ (knows_required b) ∙ go_on _ (kinds_known_lem old (sections_of v) k)

  older_accepts : Accepts old s ↔ (KnowsBits 16 old s × KnowsKinds old (sections_of v))
  older_accepts = (
    λ (w, k). (required_bits old s w k, accepts_kinds new old s v w h k),
    λ (b, k). (_, knowing_accepts b k),
  )

  older_shows : (w : View) → Newer new old → read old s ≡ ok w → w ≡ with_flags v (kept old.bits v.flags)
  older_shows w n k =
      let c = passed _ _ _ _ (sym (read_answer new old s v h) ∙ k) in
      let e : kept old.bits v.flags ≡ kept old.bits (flag_word s) = ap (kept old.bits) (view_flags new s v h) ∙ kept_within new.bits old.bits (flag_word s) (newer_bits n) in
      rw e (sym (ok_same (went _ _ c.1).2))

  older_refuses_bits : ¬ KnowsBits 16 old s → read old s ≡ refused 8 16
  older_refuses_bits n = read_answer new old s v h ∙ stop 8 16 _ (go (not (all_known 16 old.bits (flag_word s))) refl)
    where
      go : (t : Bool) → not (all_known 16 old.bits (flag_word s)) ≡ t → t ≡ true
      go true e = refl
      go false e = absurd (n (known_bits 16 (flag_word s) old.bits (all_known_known 16 old.bits (flag_word s) e)))

first_unknown : (e : Edition) (qs : List Section) → ¬ KnowsKinds e qs → (q : Section) × FirstUnknown e qs q × (kinds_known e qs ≡ refused 10 (place_of q))
unfolding kinds_known
first_unknown e [] n = absurd (n tt)
first_unknown e (p ∷ qs) n = go (knows_kind e p) refl (first_unknown e qs)
  where
    go : (b : Bool) → knows_kind e p ≡ b → (¬ KnowsKinds e qs → (q : Section) × FirstUnknown e qs q × (kinds_known e qs ≡ refused 10 (place_of q)))
        → (q : Section) × FirstUnknown e (p ∷ qs) q × (kinds_known e (p ∷ qs) ≡ refused 10 (place_of q))
    go true i rest =
        let r = rest (λ k. n (rw i tt, k)) in
        let f = r.1 in (
          r.0,
          record { before = p ∷ f.before; after = f.after; split = ap (λ (l : List Section). p ∷ l) f.split; known = (rw i tt, f.known); unknown = f.unknown },
          pass 10 (place_of p) _ (ap not i) ∙ r.2,
        )
    go false i rest = (p, record { before = []; after = qs; split = refl; known = tt; unknown = λ k. rw i at k }, stop 10 (place_of p) _ (ap not i))

older_refuses_kind : (new old : Edition) (s : List ℕ) (v : View) → read new s ≡ ok v → KnowsBits 16 old s → ¬ KnowsKinds old (sections_of v)
    → (q : Section) × FirstUnknown old (sections_of v) q × (read old s ≡ refused 10 (place_of q))
older_refuses_kind new old s v h b n =
    let f = first_unknown old (sections_of v) n in
    (f.0, f.1, read_answer new old s v h ∙ pass 8 16 _ (knows_required new old s v h b) ∙ halt _ f.2)

-- ---- one relay behind another

forward_accepted : (new old : Edition) (s : List ℕ) (v : View) (out : List ℕ) → Newer new old → read old s ≡ ok v → Room s out → read new (sent old s out) ≡ ok v
unfolding with_flags
forward_accepted new old s v out n h l =
    let f = view_flags old s v h in
    let k : Known 16 v.flags new.bits = rw f (kept_known' 16 old.bits new.bits (flag_word s) (bits_known 16 old.bits new.bits (λ i j. n.bits i (omega arith)))) in
    let g : kept new.bits v.flags ≡ v.flags =
    ap (kept new.bits) f ∙ kept_swap old.bits new.bits (flag_word s) ∙ kept_within new.bits old.bits (flag_word s) (newer_bits n) ∙ sym f in
    rw (sent_forwarded old s v h out l)
    (forwarded_answer old s v h new k (more_kinds old new (sections_of v) n.kinds (accepts_kinds old old s v v h h)) ∙ ap (λ (x : ℕ). ok (with_flags v x)) g)

-- two relays that accept a message
module _ (a b : Edition) (s : List ℕ) (v w : View) (out : List ℕ) (h : read a s ≡ ok v) (k : read b s ≡ ok w) (l : Room s out) where
  pub second_accepts : read b (sent a s out) ≡ ok (with_flags v (kept b.bits v.flags))
  second_accepts =
      let q : Known 16 v.flags b.bits = rw (view_flags a s v h) (kept_known 16 a.bits b.bits (flag_word s) (required b s w k)) in
      rw (sent_forwarded a s v h out l) (forwarded_answer a s v h b q (accepts_kinds a b s v w h k))

  pub second_sends : (out' : List ℕ) → Room (sent a s out) out' → sent b (sent a s out) out' ≡ forwarded s (with_flags v (kept b.bits (kept a.bits (flag_word s))))
  second_sends out' l' =
      sent_forwarded b (sent a s out) _ second_accepts out' l'
      ∙ ap (λ (m : List ℕ). forwarded m (with_flags v (kept b.bits v.flags))) (sent_forwarded a s v h out l)
      ∙ forwarded_again a s v h _
      ∙ ap (λ (x : ℕ). forwarded s (with_flags v (kept b.bits x))) (view_flags a s v h)

same_flags : (s : List ℕ) (v w : View) (x y : ℕ) → x ≡ y → forwarded s (with_flags v x) ≡ forwarded s (with_flags w y)
unfolding forwarded with_flags
same_flags s v w x y e = rw e

pub demand3 : Demand3
demand3 = record {
  accepts = λ new old s v n h. older_accepts new old s v h;
  shows = λ new old s v w n h k. older_shows new old s v h w n k;
  refuses_bits = λ new old s n (v, h) k. older_refuses_bits new old s v h k;
  refuses_kind = λ new old s v n h b k. older_refuses_kind new old s v h b k;
  passes_on = forward_accepted;
  commutes = λ a b s out₁ out₂ out₃ out₄ (v, h) (w, k) l₁ l₂ l₃ l₄. (
    (_, second_accepts a b s v w out₁ h k l₁),
    (_, second_accepts b a s w v out₃ k h l₃),
    second_sends a b s v w out₁ h k l₁ out₂ l₂ ∙ same_flags s v w _ _ (kept_swap a.bits b.bits (flag_word s)) ∙ sym (second_sends b a s w v out₃ k h l₃ out₄ l₄),
  );
}
