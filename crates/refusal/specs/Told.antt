-- The numbers of the table of refusals, and what a result stands for in its terms.
-- Assumes nothing: these are definitions.
use Rattle.std.specs.Prelude.{ℕ, ◌≡◌, Result, Ok, Err}
use Rattle.wire.specs.Outcome.{Outcome, ok, refused}
use Rattle.refusal.specs.declared.Reason.{Reason}
use Rattle.refusal.specs.declared.Refusal.{Refusal}

-- the number of a reason
abbrev pub number : Reason → ℕ
number Reason.ShortHeader = 1
number Reason.MessageLength = 2
number Reason.ShortMessage = 3
number Reason.OlderOpcode = 4
number Reason.CompressedOpcode = 5
number Reason.UnknownOpcode = 6
number Reason.NoFlags = 7
number Reason.UnknownFlag = 8
number Reason.Checksum = 9
number Reason.UnknownSection = 10
number Reason.SecondBody = 11
number Reason.SectionSize = 12
number Reason.Identifier = 13
number Reason.TooManySequences = 14
number Reason.DocumentLength = 15
number Reason.DocumentEnd = 16
number Reason.UnknownType = 17
number Reason.NameEnd = 18
number Reason.Value = 19
number Reason.TooDeep = 20
number Reason.TooManyElements = 21
number Reason.NoBody = 22
number Reason.RepeatedName = 23
number Reason.RepeatedIdentifier = 24
number Reason.ShortOutput = 25
number Reason.NotUtf8 = 27
number Reason.TooFewSequences = 28

abbrev pub Numbers : Reason → ℕ → Type 0
Numbers reason n = n ≡ number reason

-- an accepted value, or the number and the place of a refusal
abbrev pub told : {A : Type 0} → Result A Refusal → Outcome A
told (Ok a) = ok a
told (Err r) = refused (number r.reason) r.place

-- No two reasons have one number, so the equation `told result ≡ o`, by which calls promise their answer, leaves one result for each input.
abbrev pub NoTwoAlike : Type 0
NoTwoAlike = (a b : Reason) → number a ≡ number b → a ≡ b

abbrev pub OneAnswer : Type 1
OneAnswer = (A : Type 0) (r s : Result A Refusal) → told r ≡ told s → r ≡ s
