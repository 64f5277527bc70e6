-- Laws of reading all lines, one in each turn: xs are the bytes that are left, w those up to the first newline, and ys those behind it.
-- Assumes nothing.
use Rattle.std.proofs.Common.{ℕ, ◌+◌, ◌≤◌, ◌<◌, ◌≡◌, ◌≢◌, ◌∙◌, min, List, [], ◌∷◌, ◌++◌, length, eqb, Result, Ok, Err, ap, arith}
use Rattle.std.specs.List.{IsFirstMatchOrLen}
use Rattle.std.specs.Result.{IsErrAnd}
use Rattle.wire.specs.Outcome.{ok, refused, ◌>>=◌}
use Rattle.listing_lines.specs.Fields.{newline}
use Rattle.listing_fields.specs.Numbers.{until_newline}
use Rattle.listing_fields.proofs.Splitting.{line_of, no_line}
use Rattle.listing_stored.specs.Version.{Version}
use Rattle.listing_stored.specs.Stored.{Position}
use Rattle.listing_stored.specs.Answers.{told}
use Rattle.listing_stored.specs.Inner.{judged, run}
use Rattle.listing_stored.specs.declared.Listing.{Listing}
use Rattle.listing_stored.specs.declared.WrongLine.{WrongLine}
use Rattle.listing_stored.proofs.Judged.{run_empty, run_rest, run_line}

-- what a refusal tells
pub told_wrong : {w e : WrongLine} (r : Result Listing WrongLine) → IsErrAnd r (λ d. d ≡ w) → w ≡ e → told r ≡ refused 38 e.line
told_wrong (Ok l) is same = absurd is
told_wrong (Err d) is same = cc

module _ (v : Version) (p : Position) where
  rest_refused : (xs : List ℕ) → 0 < length xs → length xs ≤ until_newline xs → run v xs p ≡ refused 38 p.line
  rest_refused [] some h = absurd (omega arith)
  rest_refused (x ∷ xs) some h = run_rest v x xs p h

  pub no_more : (xs : List ℕ) → length xs ≡ 0 → run v xs p ≡ ok p
  no_more [] none = run_empty v p
  no_more (x ∷ xs) none = absurd (omega arith)

  module _ (xs w ys : List ℕ) (i : ℕ) (whole : xs ≡ w ++ ys) (cut : length w ≡ min (i + 1) (length xs)) (first : IsFirstMatchOrLen (λ x. eqb x newline) xs i) where
    pub unended : 0 < length xs → ((t : List ℕ) → w ≢ t ++ newline ∷ []) → run v xs p ≡ refused 38 p.line
    unended some none = rest_refused xs some (no_line xs w ys i whole cut first none)

    pub turn : (t : List ℕ) → w ≡ t ++ newline ∷ [] → run v xs p ≡ (judged v p t >>= run v ys)
    turn t e =
        let found = line_of xs w ys i whole cut first t e in
        ap (λ l. run v l p) found.0 ∙ run_line v t ys p found.1
