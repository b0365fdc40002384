-- `list_ranges::inner::put_dimensions` meets its contract. The invariant: the dimensions before this one are put. Assumes nothing.
use native.Mathlib.Omega.{arith}
use Rattle.list_ranges.proofs.PartLaws.{dimension_told, texts_start, texts_turn}
use Rattle.list_ranges.proofs.inner.put_dimensions.Goals as goal

pub loop-dimension-init : goal.loop-dimension-init
loop-dimension-init c = search texts_start

pub loop-dimension-preserved : goal.loop-dimension-preserved
loop-dimension-preserved c =
    texts_turn _ _ _ _ _ _ _ c.loop-dimension.invariant (dimension_told _ _ _ _ _ _ _ c.classify_lowers.ensures c.put_ranges.ensures) (omega arith)
