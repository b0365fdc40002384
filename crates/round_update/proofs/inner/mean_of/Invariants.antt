-- `round_update::inner::mean_of` meets its contract. The invariant: the two sums over the entries so far. Assumes nothing.
use Prim.Native.Nat.{◌-◌, ◌≤◌}
use Rattle.round_update.specs.Update.{table_entries, olds_at}
use Rattle.round_update.proofs.Sums.{Summed}
use Rattle.round_update.proofs.inner.mean_of.Given as goal

abbrev pub invariant-loop-t : goal.invariant-loop-t
invariant-loop-t l = (l.t ≤ l.n) × Summed l.weights (olds_at l.f l.base (table_entries l.b l.at l.t)) l.t l.sum l.weight_sum

abbrev pub decreases-loop-t : goal.decreases-loop-t
decreases-loop-t l = l.n - l.t
