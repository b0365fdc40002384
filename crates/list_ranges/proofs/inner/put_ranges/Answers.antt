-- `list_ranges::inner::put_ranges` meets its contract. Assumes nothing.
use mathlib.Core.Path.{refl}
use native.Mathlib.Omega.{arith}
use Rattle.split_ranges.proofs.LowerLaws.{range_fits}
use Rattle.list_ranges.proofs.PartLaws.{range_row, row_told}
use Rattle.list_ranges.proofs.inner.put_ranges.Goals as goal

pub shared_ref_as_front-row : goal.shared_ref_as_front-row
shared_ref_as_front-row c = (range_fits _ _ _ _ _ c.requires.0 refl c.requires.1 refl c.count_of-count.ensures.0).1

pub invariant_of-row : goal.invariant_of-row
invariant_of-row c = record { fits = omega (arith, range_fits _ _ _ _ _ c.requires.0 refl c.requires.1 c.below_of-first.ensures.0 c.count_of-count.ensures.0) }

pub returns : goal.returns
returns c =
    row_told _ _ _ _ _ _ _ _ _ (range_row _ _ _ _ _ _ c.requires.0 c.requires.1 c.below_of-first.ensures.0 c.count_of-count.ensures.0 c.told-lower refl refl)
    c.put_range.ensures c.put_range-2.ensures c.put_range-3.ensures c.put_range-4.ensures
