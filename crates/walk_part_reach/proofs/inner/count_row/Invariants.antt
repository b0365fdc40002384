-- `walk_part_reach::inner::count_row` meets its contract. The invariant: the places before q are counted. Assumes nothing.
use mathlib.Core.Path.{◌≡◌}
use Prim.Native.Nat.{◌-◌, ◌≤◌}
use Rattle.walk_part_reach.specs.Rows.{layer_count}
use Rattle.walk_part_reach.proofs.inner.count_row.Given as goal

abbrev pub invariant-loop-q : goal.invariant-loop-q
invariant-loop-q l = (l.q ≤ l.cells) × (l.k ≤ l.q) × (l.k ≡ layer_count l.layers l.first l.q)

abbrev pub decreases-loop-q : goal.decreases-loop-q
decreases-loop-q l = l.cells - l.q
