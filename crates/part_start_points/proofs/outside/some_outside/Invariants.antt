-- `part_start_points::outside::some_outside` meets its contract. The invariant: no cell before c has one outside, and the row is clear. Assumes nothing.
use mathlib.Core.Path.{◌≡◌}
use mathlib.Core.Bool.{false}
use Prim.Native.Nat.{◌+◌, ◌-◌, ◌≤◌}
use Rattle.vocabulary.specs.Intervals.{some}
use Rattle.layout.specs.Limits.{most_elements}
use Rattle.split_classes.specs.Classes.{RowCleared}
use Rattle.walk_incidence.specs.Links.{seen}
use Rattle.part_start_points.specs.Outside.{cell_outside}
use Rattle.part_start_points.proofs.outside.some_outside.Given as goal

abbrev pub invariant-loop-c : goal.invariant-loop-c
invariant-loop-c l =
    (l.c-end ≡ l.sought.first + l.sizes.cells) × (l.sought.first ≤ l.c) × (l.c ≤ l.c-end) × RowCleared most_elements l.stamps
    × (some l.sought.first (l.c - l.sought.first) (cell_outside l.m (seen l.incidence) l.owners l.table l.ends l.sought.first l.sought.points l.sought.part) ≡ false)

abbrev pub decreases-loop-c : goal.decreases-loop-c
decreases-loop-c l = l.c-end - l.c
