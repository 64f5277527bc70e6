-- Names that differ in a message differ in a front of its sections. The names of elements, one by one.
-- Assumes nothing.
use Prim.Native.Nat.{ℕ, zero, suc, ◌+◌, ◌-◌, ◌<◌, ◌≤◌}
use mathlib.Core.Bool.{Bool}
use mathlib.Core.Path.{◌≡◌, refl, ap, ◌∙◌}
use mathlib.Core.List.{List, [], ◌∷◌, ◌++◌}
use native.Mathlib.Omega.{arith}
use lib.ListN.{length, drop, length-drop}
use lib.Seq.{take-append-le, drop-append-le}
use borrow.Author.Tests.{ne_eqb}
use Rattle.wire.specs.Outcome.{ok}
use Rattle.wire.proofs.Outcome.{passed, pass}
use Rattle.bson_elements.specs.Element.{element_size}
use Rattle.opmsg.specs.Sections.{body_of}
use Rattle.opmsg.specs.Names.{Name, distinct, name_text, element_names, part, body_names, identifiers}
use Rattle.opmsg.specs.declared.Section.{Section}
use Rattle.opmsg.specs.declared.Section.TheVariants.{None, Body, Sequence}
use Rattle.opmsg.proofs.Accepted.{Differ}
use Rattle.opmsg.proofs.Shown.{body_before}

-- identifiers that stand within the first n bytes of the sections
abbrev pub NamesWithin : ℕ → List Section → Type 0
NamesWithin n [] = Unit {0}
NamesWithin n (None ∷ qs) = NamesWithin n qs
NamesWithin n (Body range ∷ qs) = NamesWithin n qs
NamesWithin n (Sequence identifier documents number ∷ qs) = ((identifier.start - 20) + identifier.length ≤ n) × NamesWithin n qs

pub within_more : (m n : ℕ) (qs : List Section) → m ≤ n → NamesWithin m qs → NamesWithin n qs
within_more m n [] l h = tt
within_more m n (None ∷ qs) l h = within_more m n qs l h
within_more m n (Body range ∷ qs) l h = within_more m n qs l h
within_more m n (Sequence identifier documents number ∷ qs) l h = (omega (arith, h.0), within_more m n qs l h.1)

pub within_append : (n : ℕ) (qs rs : List Section) → NamesWithin n qs → NamesWithin n rs → NamesWithin n (qs ++ rs)
within_append n [] rs h k = k
within_append n (None ∷ qs) rs h k = within_append n qs rs h k
within_append n (Body range ∷ qs) rs h k = within_append n qs rs h k
within_append n (Sequence identifier documents number ∷ qs) rs h k = (h.0, within_append n qs rs h.1 k)

pub front_part : (ys zs : List ℕ) (place n : ℕ) → (place - 20) + n ≤ length ys → part (ys ++ zs) place n ≡ part ys place n
unfolding part
front_part ys zs place n h =
    let l : place - 20 ≤ length ys = omega arith in
    let k : n ≤ length (drop (place - 20) ys) = rw length-drop (omega arith) in
    rw (drop-append-le (place - 20) ys zs l) (take-append-le n (drop (place - 20) ys) zs k)

pub front_identifiers : (ys zs : List ℕ) (qs : List Section) → NamesWithin (length ys) qs → identifiers (ys ++ zs) qs ≡ identifiers ys qs
unfolding identifiers
front_identifiers ys zs [] h = refl
front_identifiers ys zs (None ∷ qs) h = front_identifiers ys zs qs h
front_identifiers ys zs (Body range ∷ qs) h = front_identifiers ys zs qs h
front_identifiers ys zs (Sequence identifier documents number ∷ qs) h = rw (front_part ys zs identifier.start identifier.length h.0, front_identifiers ys zs qs h.1)

pub identifiers_append : (xs : List ℕ) (qs rs : List Section) → identifiers xs (qs ++ rs) ≡ identifiers xs qs ++ identifiers xs rs
unfolding identifiers
identifiers_append xs [] rs = refl
identifiers_append xs (None ∷ qs) rs = identifiers_append xs qs rs
identifiers_append xs (Body range ∷ qs) rs = identifiers_append xs qs rs
identifiers_append xs (Sequence identifier documents number ∷ qs) rs = ap (λ (l : List Name). record { place = identifier.start; text = part xs identifier.start identifier.length } ∷ l) (identifiers_append xs qs rs)

front_distinct : (number : ℕ) (test : List ℕ → Bool) (earlier : List (List ℕ)) (ns ms : List Name)
    → distinct number test earlier (ns ++ ms) ≡ ok tt → distinct number test earlier ns ≡ ok tt
unfolding distinct
front_distinct number test earlier [] ms h = refl
front_distinct number test earlier (n ∷ ns) ms h =
    let c = passed _ _ _ _ h in
    let d = passed _ _ _ _ c.1 in
    pass number n.place _ c.0 ∙ pass number n.place _ d.0 ∙ front_distinct number test (n.text ∷ earlier) ns ms d.1

-- in a front ys of the sections' bytes, with the body and all of qs in it
pub front_differ : (ys zs : List ℕ) (qs rs : List Section) → 0 < (body_of qs).start → ((body_of qs).start + 4 - 20) + ((body_of qs).length - 5) ≤ length ys → NamesWithin (length ys) qs
    → Differ (ys ++ zs) (qs ++ rs) → Differ ys qs
unfolding body_names
front_differ ys zs qs rs some inside k d =
    let first = body_before qs rs some in
    let p = front_part ys zs ((body_of qs).start + 4) ((body_of qs).length - 5) inside in
    let i : identifiers (ys ++ zs) (qs ++ rs) ≡ identifiers ys qs ++ identifiers (ys ++ zs) rs = identifiers_append (ys ++ zs) qs rs ∙ rw (front_identifiers ys zs qs k) in
    record {
      names = rw (first, p) at d.names;
      all = front_distinct 24 _ _ (identifiers ys qs) _ (rw (first, p, i) at d.all);
    }

-- one turn of listing the names of elements
pub names_step : (turns at : ℕ) (xs : List ℕ) → 0 < length xs
    → element_names (suc turns) at xs ≡ record { place = at + 1; text = name_text xs } ∷ element_names turns (at + element_size xs) (drop (element_size xs) xs)
unfolding element_names
names_step turns at xs l = rw (element_names, ne_eqb (length xs) 0 (λ e. omega arith))

pub names_done : (turns at : ℕ) → element_names turns at [] ≡ []
unfolding element_names
names_done zero at = refl
names_done (suc turns) at = refl
