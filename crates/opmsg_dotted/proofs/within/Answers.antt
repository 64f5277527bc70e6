-- `opmsg_dotted::within` meets its contract: the element was read, so its name ends within.
-- Assumes nothing.
use Rattle.std.proofs.Common.{ℕ, ◌≡◌, ◌+◌, ◌<◌, List, length, drop}
use mathlib.Core.Path.{◌∙◌}
use native.Mathlib.Omega.{arith}
use lib.ListN.{length-drop}
use Rattle.wire.proofs.Parts.{rest_part}
use Rattle.bson_skip.proofs.Span.{element_is}
use Rattle.opmsg.specs.Dotted.{elements_within}
use Rattle.opmsg_element_names.specs.Inner.{Read, text_at}
use Rattle.opmsg_element_names.proofs.Ordering.{name_length_lem}
use Rattle.opmsg_dotted.proofs.within.Goals as goal

-- the element's type and name stand within
named : (xs : List ℕ) (place n : ℕ) → Read xs place → n ≡ length (text_at xs place) → n + 1 + place < length xs
named xs place n r e = omega (arith, (element_is (drop place xs) r.0).named, e, name_length_lem (drop place xs), length-drop place xs)

pub overflow_add-start : goal.overflow_add-start
overflow_add-start c = omega (arith, named c.args.xs.now c.args.place c.args.n c.requires.0 c.requires.1)

pub slice_bounds-document-count : goal.slice_bounds-document-count
slice_bounds-document-count c = omega (arith, named c.args.xs.now c.args.place c.args.n c.requires.0 c.requires.1, length-drop c.args.place c.args.xs.now)

pub slice_bounds-document-start : goal.slice_bounds-document-start
slice_bounds-document-start c = omega (arith, named c.args.xs.now c.args.place c.args.n c.requires.0 c.requires.1, length-drop c.args.place c.args.xs.now)

pub returns : goal.returns
unfolding elements_within
returns c =
    let element = drop c.args.place c.args.xs.now in
    c.stretch.ensures
    ∙ rw (c.saturating_sub-inner.ensures, c.word-size.ensures, rest_part c.args.place c.args.xs.now, rest_part (c.args.n + 2) element, c.requires.1)
