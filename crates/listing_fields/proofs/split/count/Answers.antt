-- The fields are the parts between tabs.
use Rattle.std.proofs.Common.{◌∙◌, length, sym, ap, rules, tests, eqb}
use Rattle.std.proofs.lemmas.Iterator.Consumers.{count_from_yields_List}
use Rattle.std.proofs.lemmas.Iterator.Splits.{YieldsList-from_slice_split}
use Rattle.listing_lines.specs.Fields.{tab}
use Rattle.listing_fields.proofs.Splitting.{fields_split}
use Rattle.listing_fields.proofs.split.count.Goals as goal

pub returns : goal.returns
returns c =
    let l = c.args.l.now in
    count_from_yields_List _ _ c.count.ensures.ran (YieldsList-from_slice_split _ (λ x. eqb x tab) l c.split.ensures.rest c.split.ensures.done c.split.ensures.closure (λ x b q k. search (rules, tests)))
    ∙ ap length (sym (fields_split l))
