-- A turn reads the line up to the first newline.
use Rattle.std.proofs.Common.{◌∙◌, ◌∷◌, [], eqb, length, length-append, sym, ap, rules, tests, arith}
use Rattle.std.specs.Slice.Iter.{split_inclusive_rest}
use Rattle.std.proofs.lemmas.Bool.Decides.{Decides-eqb}
use Rattle.std.proofs.lemmas.List.Sorted.{answers_always}
use Rattle.std.proofs.lemmas.Slice.Eq.{strip_suffix_is}
use Rattle.wire.specs.Outcome.{Outcome, ◌>>=◌}
use Rattle.wire.proofs.Outcome.{go_on, halt}
use Rattle.listing_lines.specs.Fields.{newline}
use Rattle.listing_stored.specs.Stored.{Position}
use Rattle.listing_stored.specs.Inner.{limited, position_of, answered}
use Rattle.listing_stored.proofs.Turns.{told_wrong, no_more, unended, turn}
use Rattle.listing_stored.proofs.lines.Goals as goal

pub returns-in_err-text-clause-is : goal.returns-in_err-text-clause-is
returns-in_err-text-clause-is c =
    let w = c.in-Some.whole.now in
    let cut = c.in-Some.ensures.steps in
    let none = rw c.in_err-text.ensures.ok_part at (strip_suffix_is Decides-eqb w (newline ∷ []) _ c.strip_suffix.ensures.cases) in
    told_wrong c.from_residual.result c.from_residual.ensures.1 (let e = rw c.in_err-text.ensures.ok_part at c.in_err-text.ensures.value in cc)
    ∙ sym (c.loop-whole.invariant.same
    ∙ halt _ (unended (limited c.args.v) (position_of c.loop-whole.p) _ w _ cut.1.0 cut.0 cut.1.1 (cut.1.2 (λ x. eqb x newline) (answers_always _ _ _ (λ f a r q k. search (rules, tests)))).1 cut.2 none))

pub returns-in_err-p-clause-is : goal.returns-in_err-p-clause-is
returns-in_err-p-clause-is c =
    let w = c.in-Some.whole.now in
    let cut = c.in-Some.ensures.steps in
    let text = rw c.in_ok-text.ensures.ok_part at (strip_suffix_is Decides-eqb w (newline ∷ []) _ c.strip_suffix.ensures.cases) in
    told_wrong c.from_residual-in_err-p.result c.from_residual-in_err-p.ensures.1 (let e = rw c.in_err-p.ensures.ok_part at c.in_err-p.ensures.value in cc)
    ∙ sym (c.loop-whole.invariant.same
    ∙ halt _ (turn (limited c.args.v) (position_of c.loop-whole.p) _ w _ cut.1.0 cut.0 cut.1.1 (cut.1.2 (λ x. eqb x newline) (answers_always _ _ _ (λ f a r q k. search (rules, tests)))).1 _ text
    ∙ halt _ (rw c.in_err-p.ensures.ok_part at c.line.ensures.l_value)))

pub loop-whole-preserved : goal.loop-whole-preserved
loop-whole-preserved c =
    let w = c.in-Some.whole.now in
    let v = limited c.args.v in
    let ys = split_inclusive_rest c.next.new.self in
    let cut = c.in-Some.ensures.steps in
    let text = rw c.in_ok-text.ensures.ok_part at (strip_suffix_is Decides-eqb w (newline ∷ []) _ c.strip_suffix.ensures.cases) in
    let follows = rw c.in_ok-p.ensures.ok_part at c.line.ensures.follows in
    let sizes = ap length cut.0 in
    record {
      same =
          c.loop-whole.invariant.same
          ∙ ap (λ (o : Outcome Position). o >>= answered v)
          (turn v (position_of c.loop-whole.p) _ w ys cut.1.0 cut.0 cut.1.1 (cut.1.2 (λ x. eqb x newline) (answers_always _ _ _ (λ f a r q k. search (rules, tests)))).1 _ text
          ∙ go_on _ (rw c.in_ok-p.ensures.ok_part at c.line.ensures.l_value));
      lines = omega (arith, c.loop-whole.invariant.lines, follows.0, sizes, length-append w ys, cut.1.1, cut.2);
      messages = omega (arith, c.loop-whole.invariant.messages, follows.1, sizes, length-append w ys, cut.1.1, cut.2);
      can_next = search rules;
      finite = search rules;
    }

pub returns-clause-is : goal.returns-clause-is
returns-clause-is c =
    c.answer.ensures.is
    ∙ sym (c.loop-whole.invariant.same ∙ go_on _ (no_more (limited c.args.v) (position_of c.loop-whole.p) _ c.in-None.ensures.steps.0))

pub returns-clause-within : goal.returns-clause-within
returns-clause-within c =
    let i = c.loop-whole.invariant in
    c.answer.ensures.within (length c.args.s.now) (omega (arith, i.lines)) (omega (arith, i.messages))
