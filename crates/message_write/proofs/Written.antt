-- Writing where its own checks pass: reading the message is reading the body where it lies.
-- Assumes nothing.
use Prim.Native.Nat.{ℕ, suc, ◌+◌, ◌-◌, ◌^◌, ◌<◌}
use mathlib.Core.Bool.{false, not}
use mathlib.Core.Path.{◌≡◌, refl, sym, ap, ◌∙◌}
use mathlib.Core.List.{List, [], ◌∷◌, ◌++◌}
use native.Mathlib.Omega.{arith}
use lib.ListN.{length, take, drop, drop_of_length-le}
use lib.IntN.{ℤ}
use mir.Syntax.{w32}
use mir.Val.{SFits}
use borrow.Author.Tests.{le-ltb, eq-eqb}
use Rattle.wire.specs.Outcome.{Outcome, ok, refused, refuse, ◌>>=◌}
use Rattle.wire.specs.Bytes.{word, word_at, le32, bits32}
use Rattle.wire.specs.Walk.{Step, step, walk}
use Rattle.wire.proofs.Outcome.{ok_same, bound, pass, same_after, go_on, halt, assoc}
use Rattle.wire.proofs.Bytes.{word_le32, bits32_lt, signed_bits32}
use Rattle.wire.proofs.Walk.{walk_step, walk_done}
use Rattle.bson.specs.Document.{document_at, max_levels}
use Rattle.bson.proofs.Frame.{document_framed}
use Rattle.opmsg.specs.Flags.{all_known, knows}
use Rattle.opmsg.specs.Layout.{max_length, flag_word}
use Rattle.opmsg.specs.Sections.{body_at, body_of, Parts, nothing, body_section, section_of, section_at}
use Rattle.opmsg.specs.Names.{never, distinct, element_names, part, body_names, identifiers}
use Rattle.opmsg.specs.View.{view_of}
use Rattle.opmsg.specs.Read.{parts, distinct_names, content, read}
use Rattle.opmsg.specs.declared.Edition.{Edition}
use Rattle.opmsg.proofs.Limits.{max_length_small}
use Rattle.opmsg.proofs.Bits.{Known, all_known_known, known_all_known, bits_known, known_bits, kept_all}
use Rattle.opmsg.proofs.Accepted.{read_content}
use Rattle.message.specs.Message.{whole_length}
use Rattle.message.specs.Write.{written, write}
use Rattle.message.specs.Inner.{decided}
use Rattle.message.proofs.Message.{Headed, Seen, message_word, message_seen}
use Rattle.message_write_checks.specs.Inner.{Fit, body_examined}
use Rattle.message_write.specs.Inner.{shown}

-- ---- sections that are a body alone

-- what reading makes of them
abbrev alone : Step ℕ → Parts
alone d = record { sections = body_at 20 d.size ∷ []; elements = d.state }

body_first : (e : Edition) (s : List ℕ) → section_at e 20 (0 ∷ s) nothing ≡ (document_at max_levels 21 s 0 >>= λ d. ok (record { size = 1 + d.size; state = alone d }))
unfolding section_at section_of body_section knows body_of ◌>>=◌ refuse
body_first e s = refl

body_walked : (e : Edition) (s : List ℕ) (turns : ℕ) → word s ≡ length s → walk (section_at e) (suc turns) 20 (0 ∷ s) nothing ≡ (document_at max_levels 21 s 0 >>= λ d. ok (alone d))
body_walked e s turns w =
    walk_step (section_at e) turns 20 (0 ∷ s) nothing (omega arith)
    ∙ rw (body_first e s, assoc)
    (same_after (document_at max_levels 21 s 0) _ _ λ d h.
    let f = document_framed max_levels 21 s 0 d h in
    let none : drop (1 + d.size) (0 ∷ s) ≡ [] = drop_of_length-le (0 ∷ s) {i = 1 + d.size} (omega (arith, f.is)) in
    go_on _ refl ∙ rw none (walk_done (section_at e) turns _ (alone d)))

-- the body's names are all there are
names_alone : (end : ℕ) (s : List ℕ) (d : Step ℕ) → distinct_names end (0 ∷ s) (alone d).sections ≡ (distinct 23 never [] (element_names d.size 25 (take (d.size - 5) (drop 4 s))) >>= λ _. ok tt)
unfolding distinct_names body_of body_names part identifiers distinct ◌>>=◌ refuse
names_alone end s d = refl

content_alone : {A B : Type 0} (o : Outcome (Unit {0})) (d : A) (f : A → B) → (o >>= (λ _. ok tt) >>= λ (_ : Unit {0}). ok (f d)) ≡ (o >>= (λ _. ok d) >>= λ a. ok (f a))
unfolding ◌>>=◌
content_alone (ok u) d f = refl
content_alone (refused number place) d f = refl

-- what is decided forgets what is shown
forget : {A B C : Type 0} (o : Outcome A) (f : A → B) (g : B → C) → decided (o >>= (λ a. ok (f a)) >>= λ b. ok (g b)) ≡ decided o
unfolding decided ◌>>=◌
forget (ok a) f g = refl
forget (refused number place) f g = refl

-- ---- the message that is written

module _ (e : Edition) (i j : ℤ) (flags : ℕ) (s : List ℕ) (room : ℕ) (fit : Fit e flags s room) (small : flags < 2 ^ 32) where
  abbrev front : List ℕ
  front = le32 (whole_length flags (0 ∷ s)) ++ (le32 (bits32 i) ++ (le32 (bits32 j) ++ le32 2013))

  front_headed : Headed front flags (0 ∷ s)
  unfolding word_at le32
  front_headed = record {
    sixteen = refl;
    stated = word_le32 (whole_length flags (0 ∷ s)) _ (omega (arith, fit.limit, max_length_small));
    small = small;
  }

  written_seen : Seen (written i j flags s) flags (0 ∷ s)
  unfolding written word_at le32 word
  written_seen = message_seen front flags (0 ∷ s) front_headed fit.limit refl

  all_known_lem : Known 32 flags e.bits
  all_known_lem = all_known_known 32 e.bits flags fit.known

  required_known : not (all_known 16 e.bits (flag_word (written i j flags s))) ≡ false
  required_known = rw written_seen.flags (known_all_known 16 e.bits flags (bits_known 16 flags e.bits (λ n l. known_bits 32 flags e.bits all_known_lem n (omega arith))))

  written_parts : parts e (written i j flags s) ≡ (document_at max_levels 21 s 0 >>= λ d. ok (alone d))
  unfolding parts written
  written_parts =
      let n : 20 + length (0 ∷ s) ≡ suc (20 + length s) = omega arith in
      rw (written_seen.end, written_seen.sections, n) (body_walked e s (20 + length s) fit.stated)

  -- reading the message is reading the body
  written_read : read e (written i j flags s) ≡ (body_examined s >>= λ d. ok (view_of e (written i j flags s) (alone d)))
  unfolding content body_examined written
  written_read =
      read_content e (written i j flags s) written_seen.sound required_known
      ∙ rw (written_parts, written_seen.end, written_seen.sections)
      (assoc (document_at max_levels 21 s 0) _ _
      ∙ same_after (document_at max_levels 21 s 0) _ _ (λ d h. go_on _ refl ∙ rw names_alone (content_alone _ d (λ (a : Step ℕ). view_of e (written i j flags s) (alone a))))
      ∙ sym (assoc (document_at max_levels 21 s 0) _ _))

  -- and so writing goes by it
  write_reads : write e i j flags s room ≡ (read e (written i j flags s) >>= λ v. ok (record { view = v; bytes = written i j flags s }))
  unfolding write
  write_reads =
      let n = whole_length flags (0 ∷ s) in
      pass 8 16 _ fit.known
      ∙ pass 2 0 _ (le-ltb max_length n fit.limit)
      ∙ pass 25 0 _ (le-ltb room n fit.holds)
      ∙ pass 15 21 _ (le-ltb (length s) 4 fit.least)
      ∙ pass 15 21 _ (ap not (eq-eqb (word s) (length s) fit.stated))

  -- what it decides is decided by the body
  pub write_decided : decided (write e i j flags s room) ≡ decided (body_examined s)
  write_decided = rw (write_reads, written_read) (forget (body_examined s) _ _)

  -- the body is refused, or one of its names
  pub write_refused : {number place : ℕ} → body_examined s ≡ refused number place → write e i j flags s room ≡ refused number place
  write_refused h = write_reads ∙ halt _ (written_read ∙ halt _ h)

  module _ (fits-i : SFits w32 i) (fits-j : SFits w32 j) where
    written_view : (d : Step ℕ) → view_of e (written i j flags s) (alone d) ≡ shown i j flags (whole_length flags (0 ∷ s)) d.size d.state
    unfolding view_of shown word_at le32 written
    written_view d =
        let g = front_headed in
        let words = message_word front flags (0 ∷ s) g.sixteen in
        let first : word_at 4 front ≡ bits32 i = word_le32 (bits32 i) _ (bits32_lt i fits-i) in
        let second : word_at 8 front ≡ bits32 j = word_le32 (bits32 j) _ (bits32_lt j fits-j) in
        rw (
          words 0 (omega arith) ∙ g.stated,
          words 4 (omega arith) ∙ first,
          words 8 (omega arith) ∙ second,
          signed_bits32 i fits-i,
          signed_bits32 j fits-j,
          written_seen.flags,
          kept_all e.bits flags all_known_lem small,
        )

    -- it is accepted
    pub write_accepted : {size elements : ℕ} → body_examined s ≡ step size elements
        → write e i j flags s room ≡ ok (record { view = shown i j flags (whole_length flags (0 ∷ s)) (length s) elements; bytes = written i j flags s })
    unfolding body_examined
    write_accepted {size} {elements} h =
        bound (document_at max_levels 21 s 0) _ h λ d read rest.
        bound _ _ rest λ u passed same.
        let n : size ≡ length s = ap (λ (x : Step ℕ). x.size) (sym (ok_same same)) ∙ (document_framed max_levels 21 s 0 d read).is ∙ fit.stated in
        write_reads ∙ go_on _ (written_read ∙ go_on _ h ∙ ap ok (written_view _ ∙ ap (λ (m : ℕ). shown i j flags (whole_length flags (0 ∷ s)) m elements) n))
