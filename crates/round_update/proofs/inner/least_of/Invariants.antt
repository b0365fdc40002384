-- `round_update::inner::least_of` meets its contract. The invariant: x is the least of the entries so far. Assumes nothing.
use mathlib.Core.Path.{◌≡◌}
use Prim.Native.Nat.{◌-◌, ◌≤◌}
use Rattle.round_rule.specs.Rules.{without_gaps, least_of}
use Rattle.round_update.specs.Update.{table_entries, olds_at}
use Rattle.round_update.proofs.inner.least_of.Given as goal

abbrev pub invariant-loop-t : goal.invariant-loop-t
invariant-loop-t l = (l.t ≤ l.n) × (l.x ≡ least_of (without_gaps (olds_at l.f l.base (table_entries l.b l.at l.t))))

abbrev pub decreases-loop-t : goal.decreases-loop-t
decreases-loop-t l = l.n - l.t
