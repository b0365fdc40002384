-- `round_update::inner::plain_mean` meets its contract. The invariant: the sum and the count of the depths so far. Assumes nothing.
use Prim.Native.Nat.{◌-◌, ◌≤◌}
use Rattle.round_update.proofs.Sums.{Summed}
use Rattle.round_rule.specs.Rules.{ones}
use Rattle.round_update.proofs.Plain.{plain_olds}
use Rattle.round_update.proofs.inner.plain_mean.Given as goal

abbrev pub invariant-loop-t : goal.invariant-loop-t
invariant-loop-t l = (l.t ≤ l.n) × Summed ones (plain_olds l.b l.at l.f l.base l.t) l.t l.sum l.count

abbrev pub decreases-loop-t : goal.decreases-loop-t
decreases-loop-t l = l.n - l.t
