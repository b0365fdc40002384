-- `walk_part_reach::inner::count_all` meets its contract. The invariant: the first i rows are counted. Assumes nothing.
use Prim.Native.Nat.{◌-◌, ◌≤◌}
use Rattle.walk_part_reach.specs.Rows.{ReachCounted}
use Rattle.walk_part_reach.proofs.inner.count_all.Given as goal

abbrev pub invariant-loop-i : goal.invariant-loop-i
invariant-loop-i l = (l.i ≤ l.count) × ReachCounted l.walker.mesh.now l.walker.stencil.now l.rows l.i l.mark l.space.marks l.s

abbrev pub decreases-loop-i : goal.decreases-loop-i
decreases-loop-i l = l.count - l.i
