-- Names are accepted where no two of them are the same, none is an earlier one and none passes the test.
-- Assumes nothing.
use Prim.Native.Nat.{ℕ}
use mathlib.Core.Bool.{Bool, true, false}
use mathlib.Core.Path.{◌≡◌, refl, sym, ◌∙◌}
use mathlib.Core.Logic.{◌↔◌, inl, inr}
use mathlib.Core.List.Memᴰ
use mathlib.Core.List.{List, [], ◌∷◌, ◌++◌}
use Rattle.wire.specs.Outcome.{ok}
use Rattle.wire.proofs.Outcome.{passed, pass}
use Rattle.opmsg.specs.Names.{Name, same_text, among as isAmong, never, distinct, texts}
use Rattle.opmsg_element_names.proofs.Texts.{not_both, neither, same_self, same_text_lem, among_cons}
use Rattle.opmsg_grammar.specs.Grammar.{◌among◌, Differ}

-- the test whether a text is one of a list fails where it is none of them
not_among : (ts : List (List ℕ)) (t : List ℕ) → (isAmong ts t ≡ false) ↔ (¬ (t among ts))
not_among [] t = (λ e. Memᴰ.not-nil, λ n. unfold isAmong in refl)
not_among (m ∷ ms) t = (
  λ e x.
      let p = neither (same_text t m) (isAmong ms t) (sym (among_cons m ms t) ∙ e) in
      elim (Memᴰ.cases_cons x) [ inl same ↦ not_both (rw same at p.0) (same_self m) | inr later ↦ (not_among ms t).0 p.1 later ],
  go (same_text t m) refl (not_among ms t).1,
)
  where
    go : (b : Bool) → same_text t m ≡ b → (¬ (t among ms) → isAmong ms t ≡ false) → ¬ (t among (m ∷ ms)) → isAmong (m ∷ ms) t ≡ false
    go true s below n = absurd (n (Memᴰ.head (same_text_lem t m s)))
    go false s below n = among_cons m ms t ∙ rw s (below (λ x. n (Memᴰ.tail x)))

-- ---- texts that differ

-- the first and the others
differ_first : {t : List ℕ} {ts : List (List ℕ)} → Differ (t ∷ ts) → (¬ (t among ts)) × Differ ts
differ_first (Differ.more n d) = (n, d)

pub differ_behind : (ts : List (List ℕ)) {us : List (List ℕ)} → Differ (ts ++ us) → Differ us
differ_behind [] d = d
differ_behind (t ∷ ts) d = differ_behind ts (differ_first d).1

-- two lists, the second of which has only texts that differ
differ_append : (ts earlier : List (List ℕ)) → Differ earlier
    → (Differ ts × ((text : List ℕ) → text among ts → ¬ (text among earlier))) ↔ Differ (ts ++ earlier)
differ_append [] earlier d = (λ p. d, λ e. (Differ.none, λ text m. absurd (Memᴰ.not-nil m)))
differ_append (t ∷ ts) earlier d = (
  λ p.
      let f = differ_first p.0 in
      Differ.more {text = t} {texts = ts ++ earlier} (λ m. elim (Memᴰ.append_cases ts m) [ inl a ↦ f.0 a | inr b ↦ p.1 t (Memᴰ.head refl) b ])
      ((differ_append ts earlier d).0 (f.1, λ text m. p.1 text (Memᴰ.tail m))),
  λ e.
      let f = differ_first e in
      let r = (differ_append ts earlier d).1 f.1 in (
        Differ.more (λ m. f.0 (Memᴰ.append_left earlier m)) r.0,
        λ text m b. elim (Memᴰ.cases_cons m) [ inl same ↦ f.0 (Memᴰ.append_right ts (Memᴰ.cast (sym same) b)) | inr later ↦ r.1 text later b ],
      ),
)

-- ---- names

-- texts differ, none of them is an earlier one, and none passes the test
abbrev Clear : (test : List ℕ → Bool) → (earlier ts : List (List ℕ)) → Type 0
Clear test earlier ts = Differ ts × ((text : List ℕ) → text among ts → ¬ (text among earlier)) × ((text : List ℕ) → text among ts → test text ≡ false)

-- it is what any such check asks
clear : (number : ℕ) (test : List ℕ → Bool) (earlier : List (List ℕ)) (ns : List Name) → (distinct number test earlier ns ≡ ok tt) ↔ Clear test earlier (texts ns)
unfolding distinct texts
clear number test earlier [] = (λ e. (Differ.none, λ text m. absurd (Memᴰ.not-nil m), λ text m. absurd (Memᴰ.not-nil m)), λ c. refl)
clear number test earlier (n ∷ ns) = (
  λ e.
      let a = passed _ _ _ _ e in
      let b = passed _ _ _ _ a.1 in
      let r = (clear number test (n.text ∷ earlier) ns).0 b.1 in (
        Differ.more (λ m. r.1 n.text m (Memᴰ.head refl)) r.0,
        λ text m x. elim (Memᴰ.cases_cons m) [ inl same ↦ (not_among earlier n.text).0 a.0 (Memᴰ.cast (sym same) x) | inr later ↦ r.1 text later (Memᴰ.tail x) ],
        λ text m. elim (Memᴰ.cases_cons m) [ inl same ↦ rw same b.0 | inr later ↦ r.2 text later ],
      ),
  λ c.
      let f = differ_first c.0 in
      pass number n.place _ ((not_among earlier n.text).1 (c.1 n.text (Memᴰ.head refl)))
      ∙ pass number n.place _ (c.2 n.text (Memᴰ.head refl))
      ∙ (clear number test (n.text ∷ earlier) ns).1 (
        f.1,
        λ text m x. elim (Memᴰ.cases_cons x) [ inl same ↦ f.0 (Memᴰ.cast (sym same) m) | inr later ↦ c.1 text (Memᴰ.tail m) later ],
        λ text m. c.2 text (Memᴰ.tail m),
      ),
)

-- the names of a body
pub differ_names : (ns : List Name) → (distinct 23 never [] ns ≡ ok tt) ↔ Differ (texts ns)
differ_names ns = (λ e. ((clear 23 never [] ns).0 e).0, λ d. (clear 23 never [] ns).1 (d, λ text m. Memᴰ.not-nil, λ text m. refl))

-- and identifiers beside earlier texts that differ
pub differ_all : (test : List ℕ → Bool) (earlier : List (List ℕ)) (ns : List Name) → Differ earlier
    → (distinct 24 test earlier ns ≡ ok tt) ↔ (Differ (texts ns ++ earlier) × ((text : List ℕ) → text among texts ns → test text ≡ false))
differ_all test earlier ns d = (
  λ e. let c = (clear 24 test earlier ns).0 e in ((differ_append (texts ns) earlier d).0 (c.0, c.1), c.2),
  λ p. let a = (differ_append (texts ns) earlier d).1 p.0 in (clear 24 test earlier ns).1 (a.0, a.1, p.1),
)
