-- `part_start_lists::counts::count_classes` meets its contract. The invariant: the cells before q are counted. Assumes nothing.
use Prim.Native.Nat.{◌-◌, ◌≤◌}
use mathlib.Core.Path.{◌≡◌}
use lib.ListN.{length}
use Rattle.part_start_lists.specs.Starting.{Tallied}
use Rattle.part_start_lists.proofs.counts.count_classes.Given as goal

abbrev pub invariant-loop-q : goal.invariant-loop-q
invariant-loop-q l = (l.q ≤ l.cells) × (length l.counts ≡ length l.initial.counts) × Tallied l.class l.q l.counts

abbrev pub decreases-loop-q : goal.decreases-loop-q
decreases-loop-q l = l.cells - l.q
