-- `depths::inner::values_valid` meets its contract. The invariant: `valid` says whether the first k values are. Assumes nothing.
use mathlib.Core.Path.{◌≡◌}
use Prim.Native.Nat.{◌-◌, ◌≤◌}
use Rattle.vocabulary.specs.Intervals.{every}
use Rattle.depths.specs.Depths.{ranged_at}
use Rattle.depths.proofs.inner.values_valid.Given as goal

abbrev pub invariant-loop-k : goal.invariant-loop-k
invariant-loop-k l = (l.k ≤ l.n) × (l.valid ≡ every 0 l.k (ranged_at l.b l.at))

abbrev pub decreases-loop-k : goal.decreases-loop-k
decreases-loop-k l = l.n - l.k
