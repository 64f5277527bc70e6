-- Each way out is told what the search found.
use Rattle.std.proofs.Common.{◌≡◌, ℕ, List, Err}
use Rattle.std.proofs.lemmas.Result.{err_from_is_err_and}
use borrow.Author.Tests.{le-leb, lt-leb}
use Rattle.wire.specs.Outcome.{refuse, ◌>>=◌}
use Rattle.utf8_text.specs.declared.TextError.{TextError}
use Rattle.utf8_text.specs.Inner.{Ended}
use Rattle.bson_values.specs.declared.ValueError.{ValueError}
use Rattle.bson_values.specs.Value.{cstring}
use Rattle.bson_values.specs.Inner.{fault, Unread}
use Rattle.bson_values.proofs.cstring.Goals as goal

unended : (t : TextError) (e : ValueError) (xs : List ℕ) → Ended xs (Err t) → Unread t e → (v at : ℕ) → fault v at e ≡ cstring v at xs
unfolding cstring ◌>>=◌ refuse
unended TextError.Unended e xs h u v at = rw (u, cstring, le-leb _ _ h)
unended (TextError.IllFormed n) e xs h u v at = rw (u, cstring, lt-leb _ _ h.0, h.2 at)

pub returns-in_err-n-clause-is : goal.returns-in_err-n-clause-is
returns-in_err-n-clause-is c =
    let p = err_from_is_err_and c.from_residual.result c.from_residual.ensures.1 in
    rw p.1 (unended _ _ _ c.in_err-n.ensures p.2)

pub returns-clause-is : goal.returns-clause-is
unfolding cstring ◌>>=◌ refuse
returns-clause-is c v at = let f = c.in_ok-n.ensures in rw (cstring, ← f.0, lt-leb _ _ f.1, f.2 at)
