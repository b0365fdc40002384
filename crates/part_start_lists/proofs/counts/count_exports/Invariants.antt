-- `part_start_lists::counts::count_exports` meets its contract. The invariant: the cells before q are counted. Assumes nothing.
use mathlib.Core.Path.{◌≡◌}
use Prim.Native.Nat.{◌-◌, ◌*◌, ◌≤◌}
use Rattle.part_start_lists.specs.Starting.{export_tally}
use Rattle.part_start_lists.proofs.counts.count_exports.Given as goal

abbrev pub invariant-loop-q : goal.invariant-loop-q
invariant-loop-q l = (l.q ≤ l.cells) × (l.n ≤ 256 * l.q) × (l.n ≡ export_tally l.owners l.holders l.i l.q)

abbrev pub decreases-loop-q : goal.decreases-loop-q
decreases-loop-q l = l.cells - l.q
