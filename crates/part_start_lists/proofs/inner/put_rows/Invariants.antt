-- `part_start_lists::inner::put_rows` meets its contract. The invariant: the reaches of the cells before l are written. Assumes nothing.
use mathlib.Core.Path.{◌≡◌}
use Prim.Native.Nat.{◌+◌, ◌-◌, ◌≤◌}
use lib.ListN.{length}
use Rattle.vocabulary.specs.Intervals.{blocks}
use Rattle.word_lists.specs.Putting.{Put}
use Rattle.part_start_lists.specs.Starting.{row_words}
use Rattle.part_start_lists.proofs.inner.put_rows.Given as goal

abbrev pub invariant-loop-l : goal.invariant-loop-l
invariant-loop-l l = (l.l-end ≡ l.owned + 1) × (1 ≤ l.l) × (l.l ≤ l.owned + 1) × (length l.b ≡ length l.initial.b) × Put l.initial.b l.b l.s l.u (blocks 1
    (l.l - 1) (row_words l.table l.ends l.first l.order l.local))

abbrev pub decreases-loop-l : goal.decreases-loop-l
decreases-loop-l l = l.l-end - l.l
