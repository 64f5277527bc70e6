-- The fields are the parts between tabs.
use Rattle.std.proofs.Common.{ℕ, ◌≡◌, ◌∙◌, Bor, Option, Some, None, List, [], refl, sym, ap, rules, tests, eqb}
use Rattle.std.specs.Option.{unwrap_or, option_map}
use Rattle.std.proofs.lemmas.Option.{unwrap_or-slice_get}
use Rattle.std.proofs.lemmas.Iterator.Consumers.{nth_from_yields_List}
use Rattle.std.proofs.lemmas.Iterator.Splits.{YieldsList-from_slice_split}
use Rattle.listing_lines.specs.Fields.{tab}
use Rattle.listing_fields.specs.Numbers.{field}
use Rattle.listing_fields.proofs.Splitting.{fields_split}
use Rattle.listing_fields.proofs.split.field.Goals as goal

or_none : (r : Option (Bor (List ℕ))) (d : Bor (List ℕ)) → d.now ≡ [] → (unwrap_or r d).now ≡ unwrap_or (option_map (λ x. x.now) r) []
or_none (Some x) d e = refl
or_none None d e = e

pub returns : goal.returns
returns c =
    let l = c.args.l.now in
    let e = nth_from_yields_List _ _ _ c.nth.ensures.ran (YieldsList-from_slice_split _ (λ x. eqb x tab) l c.split.ensures.rest c.split.ensures.done c.split.ensures.closure (λ x b q k. search (rules, tests))) in
    ap (λ x. x.now) c.unwrap_or.ensures
    ∙ or_none c.nth.result _ refl
    ∙ ap (λ o. unwrap_or o []) e
    ∙ unwrap_or-slice_get _ c.args.i []
    ∙ ap (field c.args.i) (sym (fields_split l))
