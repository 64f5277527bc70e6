-- The entries of a view: how many say sequence, and the first that says body.
-- Assumes nothing.
use Rattle.std.proofs.Common.{◌≡◌, List, ◌∷◌, length, ℕ, ◌+◌, ◌<◌, ◌≤◌, Bool, true, false, cond, refl, sym, ap, ◌∙◌, arith}
use Rattle.std.proofs.lemmas.List.Recursion.{is_count_by}
use Rattle.std.specs.Prelude.{count_by, map}
use Rattle.opmsg.specs.Sections.{sequences_of, body_of}
use Rattle.opmsg.specs.View.{sections_of, sequence_count}
use Rattle.opmsg.specs.declared.View.{View}
use Rattle.opmsg.specs.declared.Range.{Range}
use Rattle.opmsg.specs.declared.Entry.{Entry}
use Rattle.opmsg.specs.declared.Section.{Section}
use Rattle.opmsg.specs.declared.Section.TheVariants.{None, Body, Sequence}
use Rattle.opmsg.proofs.Entries.{said_at, said_from, said_next, said_end}

-- a section says sequence
abbrev sequence : Section → Bool
sequence None = false
sequence (Body range) = false
sequence (Sequence identifier documents number) = true

abbrev pub is_sequence : Entry → Bool
is_sequence x = sequence x.section

one_more : (q : Section) (qs : List Section) → length (sequences_of (q ∷ qs)) ≡ cond (sequence q) (1 + length (sequences_of qs)) (length (sequences_of qs))
unfolding sequences_of
one_more None qs = refl
one_more (Body range) qs = refl
one_more (Sequence identifier documents number) qs = omega arith

pub counted : (v : View) → sequence_count v ≡ count_by is_sequence v.entries
unfolding sequence_count sections_of sequences_of
counted v =
    let says : Entry → Section = λ (x : Entry). x.section in
    is_count_by (λ xs. length (sequences_of (map says xs))) is_sequence refl (λ x xs. one_more x.section (map says xs)) v.entries

-- the first body that the entries from i on say
unfoldable pub body_from : List Entry → ℕ → Range
body_from entries i = body_of (said_from entries i)

-- an entry that says no body
no_body_here : (q : Section) (qs : List Section) → ((range : Range) → q ≡ Body range → ⊥) → body_of (q ∷ qs) ≡ body_of qs
unfolding body_of
no_body_here None qs h = refl
no_body_here (Body range) qs h = absurd (h range refl)
no_body_here (Sequence identifier documents number) qs h = refl

pub behind : (entries : List Entry) (i : ℕ) → i < length entries → ((range : Range) → said_at entries i ≡ Body range → ⊥) → body_from entries i ≡ body_from entries (i + 1)
unfolding body_from
behind entries i l h = ap body_of (said_next entries i l) ∙ no_body_here _ _ h

-- what a loop returns that has come to entry i
module _ (v : View) (i : ℕ) (same : body_from v.entries 0 ≡ body_from v.entries i) where
  pub found : (range : Range) → i < length v.entries → said_at v.entries i ≡ Body range → body_of (sections_of v) ≡ range
  unfolding sections_of body_from body_of
  found range l e = same ∙ ap body_of (said_next v.entries i l) ∙ rw e refl

  pub none_left : length v.entries ≤ i → record { start = 0; length = 0 } ≡ body_of (sections_of v)
  unfolding sections_of body_from body_of
  none_left l = sym (same ∙ ap body_of (said_end v.entries i l))

pub ruleset body = (found, none_left)
