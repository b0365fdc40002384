-- `split::maps::mark_owners` meets its contract. The invariant: the owners of the cells before q are marked. Assumes nothing.
use mathlib.Core.Path.{◌≡◌}
use Prim.Native.Nat.{◌-◌, ◌≤◌}
use lib.ListN.{length}
use Rattle.split.specs.Owners.{OwnersSeen}
use Rattle.split.proofs.maps.mark_owners.Given as goal

abbrev pub invariant-loop-q : goal.invariant-loop-q
invariant-loop-q l = (l.q ≤ l.cells) × (length l.seen ≡ length l.initial.seen) × OwnersSeen l.owners l.q l.seen

abbrev pub decreases-loop-q : goal.decreases-loop-q
decreases-loop-q l = l.cells - l.q
