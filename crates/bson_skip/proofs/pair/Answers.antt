-- Two zero-ended strings that keep their rule end within.
use Rattle.std.proofs.Common.{arith}
use Rattle.bson_skip.proofs.Sizes.{regex_is}
use Rattle.bson_skip.proofs.pair.Goals as goal

pub overflow_add-second : goal.overflow_add-second
overflow_add-second c = omega (arith, (regex_is c.requires.0 _ _ c.requires.1 c.until_zero-second.ensures c.requires.2).0)

pub slice_bounds-until_zero-count : goal.slice_bounds-until_zero-count
slice_bounds-until_zero-count c = omega (arith, (regex_is c.requires.0 _ _ c.requires.1 c.until_zero-second.ensures c.requires.2).0)

pub slice_bounds-until_zero-start : goal.slice_bounds-until_zero-start
slice_bounds-until_zero-start c = omega (arith, (regex_is c.requires.0 _ _ c.requires.1 c.until_zero-second.ensures c.requires.2).0)

pub overflow_add-result : goal.overflow_add-result
overflow_add-result c = omega (arith, (regex_is c.requires.0 _ _ c.requires.1 c.until_zero-second.ensures c.requires.2).1)

pub overflow_add-result-2 : goal.overflow_add-result-2
overflow_add-result-2 c = omega (arith, (regex_is c.requires.0 _ _ c.requires.1 c.until_zero-second.ensures c.requires.2).1)

pub returns : goal.returns
returns c v n h = omega (arith, (regex_is v _ _ n c.until_zero-second.ensures h).2)
