-- `split::units::number_cells` meets its contract. The invariant: the last k cells have their numbers. Assumes nothing.
use mathlib.Core.Path.{◌≡◌}
use Prim.Native.Nat.{◌-◌, ◌≤◌}
use lib.ListN.{length, take, drop}
use Rattle.split.specs.Numbering.{numbering}
use Rattle.split.proofs.units.number_cells.Given as goal

abbrev pub invariant-loop-k : goal.invariant-loop-k
invariant-loop-k l = (l.k ≤ l.n) × (length l.local ≡ length l.initial.local) × (l.local ≡ numbering (l.n - l.k) (drop (l.n - l.k) (take l.n l.order)) l.initial.local)

abbrev pub decreases-loop-k : goal.decreases-loop-k
decreases-loop-k l = l.n - l.k
