-- The equation `told result ≡ o` leaves one result: no two reasons have one number.
-- Assumes nothing.
use mathlib.Core.Path.{◌≡◌, refl, sym, ap, ◌∙◌}
use mathlib.Core.List.{List, [], ◌∷◌}
use Prim.Native.Nat.{ℕ}
use lib.ListN.{get_or}
use Rattle.std.specs.Prelude.{Result, Ok, Err}
use Rattle.wire.proofs.Outcome.{not_ok}
use Rattle.refusal.specs.declared.Reason.{Reason}
use Rattle.refusal.specs.declared.Refusal.{Refusal}
use Rattle.refusal.specs.Told.{number, told, NoTwoAlike, OneAnswer}

-- the reasons, each at its number; 0 and 26 are none's
by_number : List Reason
by_number =
    Reason.Value ∷ Reason.ShortHeader ∷ Reason.MessageLength ∷ Reason.ShortMessage ∷ Reason.OlderOpcode ∷ Reason.CompressedOpcode ∷ Reason.UnknownOpcode
    ∷ Reason.NoFlags ∷ Reason.UnknownFlag ∷ Reason.Checksum ∷ Reason.UnknownSection ∷ Reason.SecondBody ∷ Reason.SectionSize ∷ Reason.Identifier
    ∷ Reason.TooManySequences ∷ Reason.DocumentLength ∷ Reason.DocumentEnd ∷ Reason.UnknownType ∷ Reason.NameEnd ∷ Reason.Value ∷ Reason.TooDeep
    ∷ Reason.TooManyElements ∷ Reason.NoBody ∷ Reason.RepeatedName ∷ Reason.RepeatedIdentifier ∷ Reason.ShortOutput ∷ Reason.Value ∷ Reason.NotUtf8
    ∷ Reason.TooFewSequences ∷ []

found : (r : Reason) → get_or by_number (number r) Reason.Value ≡ r
unfolding by_number
found Reason.ShortHeader = refl
found Reason.MessageLength = refl
found Reason.ShortMessage = refl
found Reason.OlderOpcode = refl
found Reason.CompressedOpcode = refl
found Reason.UnknownOpcode = refl
found Reason.NoFlags = refl
found Reason.UnknownFlag = refl
found Reason.Checksum = refl
found Reason.UnknownSection = refl
found Reason.SecondBody = refl
found Reason.SectionSize = refl
found Reason.Identifier = refl
found Reason.TooManySequences = refl
found Reason.DocumentLength = refl
found Reason.DocumentEnd = refl
found Reason.UnknownType = refl
found Reason.NameEnd = refl
found Reason.Value = refl
found Reason.TooDeep = refl
found Reason.TooManyElements = refl
found Reason.NoBody = refl
found Reason.RepeatedName = refl
found Reason.RepeatedIdentifier = refl
found Reason.ShortOutput = refl
found Reason.NotUtf8 = refl
found Reason.TooFewSequences = refl

pub no_two_alike : NoTwoAlike
no_two_alike a b e = sym (found a) ∙ ap (λ n. get_or by_number n Reason.Value) e ∙ found b

pub one_answer : OneAnswer
one_answer A (Ok a) (Ok b) e = cc
one_answer A (Ok a) (Err s) e = not_ok (sym e)
one_answer A (Err r) (Ok b) e = not_ok e
one_answer A (Err r) (Err s) e =
    let n : number r.reason ≡ number s.reason = cc in
    let p : r.place ≡ s.place = cc in
    let q : r.reason ≡ s.reason = no_two_alike r.reason s.reason n in
    rw (p, q) refl
