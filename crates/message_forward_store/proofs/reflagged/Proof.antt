-- `message_forward_store::reflagged` meets its contract: the parts of the message are stored one behind the other.
-- Assumes nothing.
use mathlib.Core.Path.{sym, ◌∙◌}
use native.Mathlib.Omega.{arith}
use lib.Seq.{length-take-le}
use borrow.Author.Rules.{rules}
use Rattle.message_forward_store.proofs.Forwards.{Laid, shown_bounds, forward_stands, forward_stores}
use Rattle.message_forward_store.proofs.reflagged.Statement.{statement}
use Rattle.message_forward_store.proofs.reflagged.Tie as tie

slice-aggregate-put : tie.Need-slice_bounds-put-end
slice-aggregate-put c =
    let a = c in
    sym (length-take-le 16 a.args.s.now (omega (arith, shown_bounds _ _ _ a.requires.0)))

sub-put : tie.Need-slice_bounds-put-count
sub-put c =
    let k = c in
    omega (arith, shown_bounds _ _ _ k.requires.0, k.checksum_size.ensures)

part-put-end : tie.Need-slice_bounds-put-end-2
part-put-end c =
    let k = c in
    omega (arith, shown_bounds _ _ _ k.requires.0, k.checksum_size.ensures)

-- what stands in the output after the three parts are stored
module _ (third : tie.After-put-2) where
  abbrev second : tie.After-put_word
  second = third.before.before.before.before.before

  abbrev first : tie.After-put
  first = second.before.before.before.before

  abbrev k : tie.After-checksum_size
  k = first.before.before

  abbrev a : tie.Start
  a = k.before.before.before

  stored : Laid a.args.s.now a.args.size a.args.flags a.args.out.now k.checksum_size.result third.put-2.new.out
  stored = record { headed = first.put.new.out; flagged = second.put_word.new.out; k_is = k.checksum_size.ensures; first = first.put.ensures; second = second.put_word.ensures; third = third.put-2.ensures }

reseal-requires : tie.Need-reseal-requires
reseal-requires c κs =
    let third = c.before.before.before in
    forward_stands _ _ _ (a third).requires.0 _ (a third).requires.1 _ _ (stored third)

returns : tie.Need-returns
returns c =
    let third = c.before.before.before.before.before.before in
    c.reseal.ensures ∙ forward_stores _ _ _ (a third).requires.0 _ (a third).requires.1 _ _ (stored third)

pub reflagged_spec : {M : Type 1} → statement M
reflagged_spec =
    tie.close
    (tie.spec
    (λ c κs. search rules)
    (λ c. search rules)
    (λ c. omega (arith, shown_bounds _ _ _ c.requires.0, c.checksum_size.ensures))
    slice-aggregate-put
    (λ c κs. search rules)
    (λ c κs. search rules)
    sub-put
    sub-put
    part-put-end
    (λ c κs. search rules)
    reseal-requires
    (λ c. search rules)
    returns)
