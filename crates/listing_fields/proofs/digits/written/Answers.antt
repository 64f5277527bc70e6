-- The digits that `io` spells are the definition's.
use Rattle.std.proofs.Common.{◌∙◌, ap}
use Rattle.opmsg.specs.Names.{same_text}
use Rattle.listing_lines.proofs.Digits.{spelled_decimal}
use Rattle.listing_fields.proofs.Fields.{same_text_eq}
use Rattle.listing_fields.proofs.digits.written.Goals as goal

pub returns : goal.returns
returns c =
    let said = c.decimal-k.ensures in
    c.eq.ensures ∙ same_text_eq _ _ ∙ ap (same_text c.args.f.now) (said.digits ∙ spelled_decimal _ _ said.len)
