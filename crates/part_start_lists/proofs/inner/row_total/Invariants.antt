-- `part_start_lists::inner::row_total` meets its contract. The invariant: e is the end of the first l rows. Assumes nothing.
use Prim.Native.Nat.{◌-◌, ◌≤◌, ◌<◌}
use mathlib.Core.Path.{◌≡◌}
use Rattle.part_start_lists.specs.Starting.{row_ends}
use Rattle.part_start_lists.proofs.inner.row_total.Given as goal

abbrev pub invariant-loop-l : goal.invariant-loop-l
invariant-loop-l l = (l.l ≤ l.owned) × (l.e < 65536) × (l.e ≡ row_ends l.table l.ends l.first l.order l.l)

abbrev pub decreases-loop-l : goal.decreases-loop-l
decreases-loop-l l = l.owned - l.l
