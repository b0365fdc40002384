-- `split_ranges::inner::add_range` meets its contract. Assumes nothing.
use native.Mathlib.Omega.{arith}
use Rattle.split_ranges.proofs.LowerLaws.{range_fits, range_none, range_added}
use Rattle.split_ranges.proofs.inner.add_range.Goals as goal

pub returns-then-top_of-k : goal.returns-then-top_of-k
returns-then-top_of-k c = search range_none

pub add_class-requires : goal.add_class-requires
add_class-requires c =
    let f = range_fits _ _ _ _ _ c.requires c.top_of.ensures.0
    c.if-top_of-k.false c.below_of.ensures.0 c.count_of.ensures.0 in (omega (arith, f.0), omega arith)

pub returns : goal.returns
returns c =
    range_added _ _ _ _ _ _ _ _ _ _ c.top_of.ensures.0 c.if-top_of-k.false
    c.below_of.ensures.0 c.count_of.ensures.0 c.add_class.ensures.0
