-- `message_forward_store::forwarded` meets its contract: a message whose flag word stays is stored as it is.
-- Assumes nothing.
use mathlib.Core.Path.{sym, ◌∙◌}
use native.Mathlib.Omega.{arith}
use lib.Seq.{length-take-le}
use borrow.Author.Rules.{rules}
use Rattle.message_forward_store.proofs.Forwards.{shown_bounds, forward_same}
use Rattle.message_forward_store.proofs.forwarded.Statement.{statement}
use Rattle.message_forward_store.proofs.forwarded.Tie as tie

sub_word : tie.Need-slice_bounds-word-count
sub_word c = omega (arith, shown_bounds _ _ _ c.requires.0)

slice-aggregate-put : tie.Need-slice_bounds-put-end
slice-aggregate-put c =
    let a = c in
    sym (length-take-le _ a.args.s.now (shown_bounds _ _ _ a.requires.0).2)

returns-2 : tie.Need-returns
returns-2 c =
    let p = c in
    let t = c in
    let w = c in
    let s = c in
    let a = c in
    p.put.ensures
    ∙ forward_same _ _ _ a.requires.0 a.args.out.now a.requires.1 (λ i. omega (arith, s.shared_slice_known-1.given i)) _ w.word.ensures t.if-word-flags.false

pub forwarded_spec : {M : Type 1} → statement M
forwarded_spec =
    tie.close
    (tie.spec
    sub_word
    sub_word
    (λ c. search rules)
    (λ c κs. search rules)
    (λ c κs. search rules)
    (λ c. search rules)
    (λ c. search rules)
    slice-aggregate-put
    (λ c κs. search rules)
    (λ c. search rules)
    returns-2)
