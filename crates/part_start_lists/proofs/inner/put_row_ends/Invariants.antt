-- `part_start_lists::inner::put_row_ends` meets its contract. The invariant: the first l ends are written, and e is the next. Assumes nothing.
use Prim.Native.Nat.{◌+◌, ◌-◌, ◌≤◌, ◌<◌}
use mathlib.Core.Path.{◌≡◌}
use lib.ListN.{length}
use Rattle.vocabulary.specs.Intervals.{listed}
use Rattle.word_lists.specs.Putting.{Put}
use Rattle.part_start_lists.specs.Starting.{row_ends}
use Rattle.part_start_lists.proofs.inner.put_row_ends.Given as goal

abbrev pub invariant-loop-l : goal.invariant-loop-l
invariant-loop-l l = (l.l ≤ l.owned) × (l.t ≡ l.s + l.l) × (length l.b ≡ length l.initial.b) × (l.e < 65536) × (l.e ≡ row_ends l.table l.ends l.first l.order l.l) ×
    Put l.initial.b l.b l.s l.t (listed 0 l.l (row_ends l.table l.ends l.first l.order))

abbrev pub decreases-loop-l : goal.decreases-loop-l
decreases-loop-l l = l.owned - l.l
