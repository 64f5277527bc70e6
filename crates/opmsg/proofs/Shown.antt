-- What a view shows of sections: their list, where the next one is stored behind the others, the body and the sequences among them.
-- Assumes nothing.
use Prim.Native.Nat.{ℕ, zero, suc, ◌-◌, ◌<◌}
use mathlib.Core.Path.{◌≡◌, refl, sym, ap, ◌∙◌}
use mathlib.Core.List.{List, [], ◌∷◌, ◌++◌, append_assoc, append-nil, map, map-append}
use native.Mathlib.Omega.{arith}
use lib.ListN.{length, set, replicate, length-append, length-map}
use lib.Seq.{set-append_seam}
use Rattle.opmsg.specs.Sections.{max_sections, body_of, sequences_of, Parts}
use Rattle.opmsg.specs.View.{padded, view_of, sections_of, sequence_count}
use Rattle.opmsg.specs.declared.Range.{Range}
use Rattle.opmsg.specs.declared.Section.{Section}
use Rattle.opmsg.specs.declared.Section.TheVariants.{None, Body, Sequence}
use Rattle.opmsg.specs.declared.Entry.{Entry}
use Rattle.opmsg.specs.declared.Edition.{Edition}

-- what says none, behind n sections
abbrev pub nones : ℕ → List Section
nones n = replicate (max_sections - n) None

-- what the entries of sections say
said : (qs : List Section) → map (λ (x : Entry). x.section) (map (λ (q : Section). record { section = q }) qs) ≡ qs
said [] = refl
said (q ∷ qs) = ap (λ (l : List Section). q ∷ l) (said qs)

pub padded_shows : (qs : List Section) → map (λ (x : Entry). x.section) (padded qs) ≡ qs ++ nones (length qs)
unfolding padded
padded_shows qs = said (qs ++ nones (length qs))

pub view_sections : (e : Edition) (s : List ℕ) (p : Parts) → sections_of (view_of e s p) ≡ p.sections ++ nones (length p.sections)
unfolding view_of sections_of
view_sections e s p = padded_shows p.sections

-- one section more
pub padded_set : (qs : List Section) (q : Section) → length qs < max_sections → set (padded qs) (length qs) (record { section = q }) ≡ padded (qs ++ (q ∷ []))
unfolding padded
padded_set qs q l =
    let says : Section → Entry = λ (q : Section). record { section = q } in
    let m = length-append qs (q ∷ []) in
    let rest = replicate (max_sections - length (qs ++ (q ∷ []))) None in
    let e : max_sections - length qs ≡ suc (max_sections - length (qs ++ (q ∷ []))) = omega arith in
    rw (e, map-append says qs (None ∷ rest), ← length-map qs says)
    (set-append_seam (map says qs) (says None) (map says rest) (says q) ∙ sym (map-append says qs (q ∷ rest))
    ∙ ap (map says) (sym (append_assoc qs (q ∷ []) rest)))

-- sections behind others
pub sequences_append : (qs rs : List Section) → sequences_of (qs ++ rs) ≡ sequences_of qs ++ sequences_of rs
unfolding sequences_of
sequences_append [] rs = refl
sequences_append (None ∷ qs) rs = sequences_append qs rs
sequences_append (Body range ∷ qs) rs = sequences_append qs rs
sequences_append (Sequence identifier documents number ∷ qs) rs = ap (λ (l : List Section). Sequence identifier documents number ∷ l) (sequences_append qs rs)

-- what says none changes nothing
pub no_sequences : (n : ℕ) → sequences_of (replicate n None) ≡ []
unfolding sequences_of
no_sequences zero = refl
no_sequences (suc n) = no_sequences n

pub sequences_nones : (n : ℕ) (qs : List Section) → sequences_of (qs ++ replicate n None) ≡ sequences_of qs
sequences_nones n qs = sequences_append qs (replicate n None) ∙ rw (no_sequences n) (append-nil (sequences_of qs))

pub view_count : (e : Edition) (s : List ℕ) (p : Parts) → sequence_count (view_of e s p) ≡ length (sequences_of p.sections)
unfolding sequence_count
view_count e s p = ap (λ (l : List Section). length (sequences_of l)) (view_sections e s p) ∙ ap length (sequences_nones (max_sections - length p.sections) p.sections)

no_body : (n : ℕ) → body_of (replicate n None) ≡ body_of []
unfolding body_of
no_body zero = refl
no_body (suc n) = no_body n

pub body_nones : (n : ℕ) (qs : List Section) → body_of (qs ++ replicate n None) ≡ body_of qs
unfolding body_of
body_nones n [] = no_body n
body_nones n (None ∷ qs) = body_nones n qs
body_nones n (Body range ∷ qs) = refl
body_nones n (Sequence identifier documents number ∷ qs) = body_nones n qs

-- the body is that of the first sections, where they have one
pub body_before : (qs rs : List Section) → 0 < (body_of qs).start → body_of (qs ++ rs) ≡ body_of qs
unfolding body_of
body_before [] rs l = absurd (omega arith)
body_before (None ∷ qs) rs l = body_before qs rs l
body_before (Body range ∷ qs) rs l = refl
body_before (Sequence identifier documents number ∷ qs) rs l = body_before qs rs l

-- a sequence more changes no body
pub body_sequence : (qs : List Section) (identifier documents : Range) (number : ℕ) → body_of (qs ++ (Sequence identifier documents number ∷ [])) ≡ body_of qs
unfolding body_of
body_sequence [] i d n = refl
body_sequence (None ∷ qs) i d n = body_sequence qs i d n
body_sequence (Body range ∷ qs) i d n = refl
body_sequence (Sequence identifier documents number ∷ qs) i d n = body_sequence qs i d n

-- or else that of the others. A body starts behind its kind byte, so never at 0
abbrev pub Started : List Section → Type 0
Started [] = Unit {0}
Started (None ∷ qs) = Started qs
Started (Body range ∷ qs) = (0 < range.start) × Started qs
Started (Sequence identifier documents number ∷ qs) = Started qs

pub started_append : (qs rs : List Section) → Started qs → Started rs → Started (qs ++ rs)
started_append [] rs h k = k
started_append (None ∷ qs) rs h k = started_append qs rs h k
started_append (Body range ∷ qs) rs h k = (h.0, started_append qs rs h.1 k)
started_append (Sequence identifier documents number ∷ qs) rs h k = started_append qs rs h k

pub body_behind : (qs rs : List Section) → Started qs → (body_of qs).start ≡ 0 → body_of (qs ++ rs) ≡ body_of rs
unfolding body_of
body_behind [] rs h l = refl
body_behind (None ∷ qs) rs h l = body_behind qs rs h l
body_behind (Body range ∷ qs) rs h l = absurd (omega (arith, h.0))
body_behind (Sequence identifier documents number ∷ qs) rs h l = body_behind qs rs h l

-- sections that are all sequences; and those with a body at most, which no section stands in for
abbrev pub Sequences : List Section → Type 0
Sequences [] = Unit {0}
Sequences (None ∷ qs) = ⊥
Sequences (Body range ∷ qs) = ⊥
Sequences (Sequence identifier documents number ∷ qs) = Sequences qs

abbrev pub Single : List Section → Type 0
Single [] = Unit {0}
Single (None ∷ qs) = ⊥
Single (Body range ∷ qs) = Sequences qs
Single (Sequence identifier documents number ∷ qs) = Single qs

pub all_sequences : (qs : List Section) → Sequences (sequences_of qs)
unfolding sequences_of
all_sequences [] = tt
all_sequences (None ∷ qs) = all_sequences qs
all_sequences (Body range ∷ qs) = all_sequences qs
all_sequences (Sequence identifier documents number ∷ qs) = all_sequences qs

pub sequences_same : (qs : List Section) → Sequences qs → sequences_of qs ≡ qs
unfolding sequences_of
sequences_same [] h = refl
sequences_same (None ∷ qs) h = absurd h
sequences_same (Body range ∷ qs) h = absurd h
sequences_same (Sequence identifier documents number ∷ qs) h = ap (λ (l : List Section). Sequence identifier documents number ∷ l) (sequences_same qs h)

pub sequences_both : (qs rs : List Section) → Sequences qs → Sequences rs → Sequences (qs ++ rs)
sequences_both [] rs h k = k
sequences_both (None ∷ qs) rs h k = absurd h
sequences_both (Body range ∷ qs) rs h k = absurd h
sequences_both (Sequence identifier documents number ∷ qs) rs h k = sequences_both qs rs h k

-- a body behind sequences is theirs
pub body_after : (qs rs : List Section) (range : Range) → Sequences qs → body_of (qs ++ (Body range ∷ rs)) ≡ range
unfolding body_of
body_after [] rs r h = refl
body_after (None ∷ qs) rs r h = absurd h
body_after (Body range ∷ qs) rs r h = absurd h
body_after (Sequence identifier documents number ∷ qs) rs r h = body_after qs rs r h
