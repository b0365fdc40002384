-- `split_classes::groups::group_cells` meets its contract. The invariant: the last t cells are linked. Assumes nothing.
use mathlib.Core.Path.{◌≡◌}
use Prim.Native.Nat.{◌-◌, ◌≤◌}
use lib.ListN.{length}
use Rattle.split_classes.proofs.GroupLaws.{GroupedFrom}
use Rattle.split_classes.proofs.groups.group_cells.Given as goal

abbrev pub invariant-loop-t : goal.invariant-loop-t
invariant-loop-t l =
    (l.t ≤ l.cells) × (length l.start ≡ length l.initial.start) × (length l.next ≡ length l.initial.next) × GroupedFrom l.row l.cells (l.cells - l.t) l.start l.next

abbrev pub decreases-loop-t : goal.decreases-loop-t
decreases-loop-t l = l.cells - l.t
