-- A chain of relays forwards what one relay forwards that knows exactly what every one of them knows.
-- Assumes nothing.
use Prim.Native.Nat.{ℕ, ◌<◌}
use mathlib.Core.Bool.{Bool, true, false, ◌&&◌, ◌||◌}
use mathlib.Core.Path.{◌≡◌, refl, sym, ap, ◌∙◌}
use mathlib.Core.List.{List, [], ◌∷◌}
use mathlib.Core.Logic.Iff
use mathlib.Core.Logic.{◌↔◌}
use native.Mathlib.Omega.{arith}
use lib.Dec.{T, eqb}
use mir.Facts.{and_yes, yes_and}
use Rattle.wire.specs.Outcome.{ok}
use Rattle.opmsg.specs.Flags.{bit, kept, knows}
use Rattle.opmsg.specs.Layout.{message_length, flag_word}
use Rattle.opmsg.specs.View.{sections_of}
use Rattle.opmsg.specs.Read.{read}
use Rattle.opmsg.proofs.SectionRead.{kind_of}
use Rattle.opmsg.proofs.Bits.{known_bits, bits_known, common_bit, kept_same, kept_both}
use Rattle.message.specs.Forward.{forwarded}
use Rattle.message.specs.Editions.{KnowsKinds, with_flags, Room, sent}
use Rattle.message.specs.Chain.{Relay, Accepting, HasRoom, after, through, All, KnowsShared, both, shared, Chain}
use Rattle.opmsg.specs.declared.Edition.{Edition}
use Rattle.opmsg.specs.declared.Section.{Section}
use Rattle.opmsg.specs.declared.View.{View}
use Rattle.message.proofs.Answers.{knows_kind_lem, accepts_kinds}
use Rattle.message.proofs.Forwarded.{view_flags, forwarded_word, forwarded_knows, sent_forwarded}
use Rattle.message.proofs.Editions.{more_kinds, required_bits, knowing_accepts, second_accepts, second_sends}

-- ---- equivalences

alone : {A : Type 0} → A ↔ (A × Unit {0})
alone = (λ a. (a, tt), λ (a, _). a)

given : {A B C : Type 0} → (A → B ↔ C) → (A × B) ↔ (A × C)
given f = (λ (a, b). (a, (f a).0 b), λ (a, c). (a, (f a).1 c))

regrouped : {A B C D : Type 0} → A ↔ (B × C) → (A × D) ↔ (B × (C × D))
regrouped h = (λ (a, d). let p = h.0 a in (p.0, (p.1, d)), λ (b, (c, d)). (h.1 (b, c), d))

and_both : (x y z : Bool) → z ≡ x && y → T z ↔ (T x × T y)
and_both x y z e = rw e ((and_yes x y, λ (p, q). yes_and x y p q))

-- ---- what two editions both know

module _ (a b : Edition) where
  both_bit : (i : ℕ) → i < 32 → T (bit i (both a b).bits) ↔ (T (bit i a.bits) × T (bit i b.bits))
  unfolding both
  both_bit i l = and_both (bit i a.bits) (bit i b.bits) _ (common_bit 32 a.bits b.bits i l)

  both_kind : (kind : ℕ) → T (knows (both a b) kind) ↔ (T (knows a kind) × T (knows b kind))
  unfolding knows both
  both_kind kind = and_both (knows a kind) (knows b kind) _ (go (eqb kind 0) (eqb kind 1))
    where
      go : (x y : Bool) → x || y && (a.sequences && b.sequences) ≡ (x || y && a.sequences) && (x || y && b.sequences)
      go true y = refl
      go false true = refl
      go false false = refl

  both_kinds : (qs : List Section) → KnowsKinds a qs → KnowsKinds b qs → KnowsKinds (both a b) qs
  both_kinds [] p q = tt
  both_kinds (x ∷ qs) p q =
      (rw (knows_kind_lem (both a b) x) ((both_kind (kind_of x)).1 (rw (knows_kind_lem a x) at p.0, rw (knows_kind_lem b x) at q.0)), both_kinds qs p.1 q.1)

-- one relay in place of the first two of a chain: it knows what both know, and is lent the first's output
abbrev fused : Relay → Relay → Relay
fused r q = record { edition = both r.edition q.edition; out = r.out }

fused_shared : (e : Edition) (r q : Relay) (rs : List Relay) → KnowsShared e (fused r q ∷ rs) ↔ KnowsShared e (r ∷ q ∷ rs)
fused_shared e r q rs =
    let a = r.edition in
    let b = q.edition in (
      λ k. record {
        bits = λ i l. Iff.trans (k.bits i l) (regrouped (both_bit a b i (omega arith)));
        kinds = λ kind. Iff.trans (k.kinds kind) (regrouped (both_kind a b kind));
      },
      λ k. record {
        bits = λ i l. Iff.trans (k.bits i l) (Iff.symm (regrouped (both_bit a b i (omega arith))));
        kinds = λ kind. Iff.trans (k.kinds kind) (Iff.symm (regrouped (both_kind a b kind)));
      },
    )

-- ---- a relay and those behind it

module _ (r : Relay) (s : List ℕ) (v : View) (h : read r.edition s ≡ ok v) (l : HasRoom r s) where
  after_forwarded : after r s ≡ forwarded s v
  after_forwarded = sent_forwarded r.edition s v h r.out l

  same_length : message_length (after r s) ≡ message_length s
  same_length = ap message_length after_forwarded ∙ forwarded_word r.edition s v h 0 (omega arith)

  same_accepts : (q : Relay) → Accepting q s ↔ Accepting q (after r s)
  same_accepts q =
      let a = r.edition in
      let b = q.edition in (
        λ (w, k). (_, second_accepts a b s v w r.out h k l),
        λ (w, k). let p = forwarded_knows a s v h b w (rw after_forwarded at k) in (_, knowing_accepts a b s v h (known_bits 16 (flag_word s) b.bits p.0) p.1),
      )

  all_accept : (rs : List Relay) → All (λ q. Accepting q s) rs ↔ All (λ q. Accepting q (after r s)) rs
  all_accept [] = Iff.rfl
  all_accept (q ∷ rs) = Iff.and (same_accepts q) (all_accept rs)

  all_room : (rs : List Relay) → All (λ q. HasRoom q s) rs ↔ All (λ q. HasRoom q (after r s)) rs
  all_room rs = rw same_length Iff.rfl

-- ---- one relay in place of a chain

-- in place of one
module _ (r : Relay) (one : Edition) (s : List ℕ) (v : View) (h : read r.edition s ≡ ok v) (k : KnowsShared one (r ∷ [])) where
  one_accepts : read one s ≡ ok (with_flags v (kept one.bits (flag_word s)))
  one_accepts =
      let a = r.edition in
      knowing_accepts a one s v h (λ i l t. (k.bits i (omega arith)).1 (required_bits a s v h i l t, tt))
      (more_kinds a one (sections_of v) (λ kind t. (k.kinds kind).1 (t, tt)) (accepts_kinds a a s v v h h))

  one_flags : v.flags ≡ kept one.bits (flag_word s)
  one_flags =
      let a = r.edition in
      let p = bits_known 32 a.bits one.bits (λ i l t. (k.bits i (omega arith)).1 (t, tt)) in
      let q = bits_known 32 one.bits a.bits (λ i l t. ((k.bits i (omega arith)).0 t).0) in
      view_flags a s v h ∙ kept_same a.bits one.bits (flag_word s) p q

  one_sends : (out : List ℕ) → HasRoom r s → Room s out → after r s ≡ sent one s out
  unfolding with_flags
  one_sends out l m =
      after_forwarded r s v h l ∙ ap (λ (x : ℕ). forwarded s (with_flags v x)) one_flags ∙ sym (sent_forwarded one s _ one_accepts out m)

-- in place of two
module _ (r q : Relay) (s : List ℕ) (v w : View) (h : read r.edition s ≡ ok v) (k : read q.edition s ≡ ok w) where
  fused_accepts : read (fused r q).edition s ≡ ok (with_flags v (kept (fused r q).edition.bits (flag_word s)))
  fused_accepts =
      let a = r.edition in
      let b = q.edition in
      knowing_accepts a (both a b) s v h (λ i l t. (both_bit a b i (omega arith)).1 (required_bits a s v h i l t, required_bits b s w k i l t))
      (both_kinds a b (sections_of v) (accepts_kinds a a s v v h h) (accepts_kinds a b s v w h k))

  fused_flags : kept q.edition.bits (kept r.edition.bits (flag_word s)) ≡ kept (fused r q).edition.bits (flag_word s)
  unfolding both
  fused_flags = kept_both r.edition.bits q.edition.bits (flag_word s)

  fused_sends : HasRoom r s → HasRoom q (after r s) → after q (after r s) ≡ after (fused r q) s
  fused_sends l l' =
      second_sends r.edition q.edition s v w r.out h k l q.out l'
      ∙ ap (λ (x : ℕ). forwarded s (with_flags v x)) fused_flags
      ∙ sym (after_forwarded (fused r q) s _ fused_accepts l)

-- ---- the chain

pub chain : (r : Relay) (rs : List Relay) → Chain r rs
unfolding through shared
chain r [] = record {
  room = λ s all. Iff.rfl;
  accept = λ s rooms. Iff.rfl;
  known = record { bits = λ i l. alone; kinds = λ kind. alone };
  bytes = λ one s out ((v, h), _) (l, _) k m. ((_, one_accepts r one s v h k), one_sends r one s v h k out l m);
}
chain r (q ∷ rs) =
    let behind = chain q rs in
    let shorter = chain (fused r q) rs in
    record {
      room = λ s ((v, h), all). given λ l. Iff.trans (all_room r s v h l (q ∷ rs)) (behind.room (after r s) ((all_accept r s v h l (q ∷ rs)).0 all));
      accept = λ s (l, rooms). given λ (v, h). Iff.trans (all_accept r s v h l (q ∷ rs)) (behind.accept (after r s) rooms);
      known = (fused_shared _ r q rs).0 shorter.known;
      bytes = λ one s out ((v, h), ((w, i), all)) (l, (l', rooms)) k m.
          let e = fused_sends r q s v w h i l l' in
          let rest = shorter.bytes one s out ((_, fused_accepts r q s v w h i), all) (l, rw e at rooms) ((fused_shared one r q rs).1 k) m in
          (rest.0, ap (through rs) e ∙ rest.1);
    }
