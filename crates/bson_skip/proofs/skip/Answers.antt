-- Each arm is told which kind it is.
use Rattle.std.proofs.Common.{ℕ, ◌+◌, ap, ◌∙◌, refl}
use mathlib.Core.Logic.{⊎_elim}
use Rattle.wire.proofs.Outcome.{ok_same, went}
use Rattle.bson_values.specs.Value.{regex}
use Rattle.bson_skip.proofs.Sizes.{sized_is, boolean_is, string_is, binary_is, pointer_is, code_is, bytes_is}
use Rattle.bson_skip.proofs.skip.Goals as goal

pub returns-in-Bytes : goal.returns-in-Bytes
returns-in-Bytes c v x h = bytes_is _ _ _ x (λ n e. sized_is v _ _ n e) (rw c.in-Bytes.is at h)

pub returns-in-Boolean : goal.returns-in-Boolean
returns-in-Boolean c v x h = bytes_is _ 1 _ x (λ n e. boolean_is v _ n e) (rw c.in-Boolean.is at h)

pub returns-in-String : goal.returns-in-String
returns-in-String c v x h = ap (λ (w : ℕ). 4 + w) c.word.ensures ∙ bytes_is _ _ _ x (λ n e. string_is v v _ n e) (rw c.in-String.is at h)

pub returns-in-Binary : goal.returns-in-Binary
returns-in-Binary c v x h = ap (λ (w : ℕ). 5 + w) c.word-in-Binary.ensures ∙ bytes_is _ _ _ x (λ n e. binary_is v _ n e) (rw c.in-Binary.is at h)

pub returns-in-Regex : goal.returns-in-Regex
returns-in-Regex c v x h = bytes_is _ _ _ x (λ n e. c.pair.ensures v n e) (rw c.in-Regex.is at h)

pub returns-in-Pointer : goal.returns-in-Pointer
returns-in-Pointer c v x h = ap (λ (w : ℕ). 16 + w) c.word-in-Pointer.ensures ∙ bytes_is _ _ _ x (λ n e. pointer_is v _ n e) (rw c.in-Pointer.is at h)

pub returns-in-Embedded : goal.returns-in-Embedded
returns-in-Embedded c v x h =
    c.word-in-Embedded.ensures
    ∙ ⊎_elim (λ e. let i = rw e at h in rw (← ok_same i) refl) (λ e. code_is v _ x (rw e at h)) c.in-Embedded.is

pub pair-requires : goal.pair-requires
pair-requires c = let w = went (regex c.requires.0 c.args.s.now) _ (rw c.in-Regex.is at c.requires.2) in (c.requires.0, w.0, w.1)
