-- `part_start_lists::inner::put_cells` meets its contract. The invariant: the depths of the cells before l are copied. Assumes nothing.
use mathlib.Core.Path.{◌≡◌}
use Prim.Native.Nat.{◌+◌, ◌-◌, ◌≤◌}
use lib.ListN.{length}
use Rattle.vocabulary.specs.Bytes.{over}
use Rattle.vocabulary.specs.Intervals.{blocks}
use Rattle.part_start_lists.specs.Starting.{start_depth}
use Rattle.part_start_lists.proofs.inner.put_cells.Given as goal

abbrev pub invariant-loop-l : goal.invariant-loop-l
invariant-loop-l l = (l.l-end ≡ l.n + 1) × (1 ≤ l.l) × (l.l ≤ l.n + 1) × (length l.b ≡ length l.initial.b) × (l.b ≡ over l.initial.b l.at (blocks 1 (l.l - 1) (start_depth l.f l.first l.order)))

abbrev pub decreases-loop-l : goal.decreases-loop-l
decreases-loop-l l = l.l-end - l.l
