-- `split_classes::holders::sum_holders` meets its contract. The invariant: the counts before q are summed. Assumes nothing.
use mathlib.Core.Path.{◌≡◌}
use Prim.Native.Nat.{◌-◌, ◌*◌, ◌≤◌}
use Rattle.split_classes.specs.Classes.{row_sum}
use Rattle.split_classes.proofs.holders.sum_holders.Given as goal

abbrev pub invariant-loop-q : goal.invariant-loop-q
invariant-loop-q l = (l.q ≤ l.cells) × (l.s ≤ 255 * l.q) × (l.s ≡ row_sum l.holders l.q)

abbrev pub decreases-loop-q : goal.decreases-loop-q
decreases-loop-q l = l.cells - l.q
