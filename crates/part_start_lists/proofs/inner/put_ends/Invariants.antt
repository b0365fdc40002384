-- `part_start_lists::inner::put_ends` meets its contract. The invariant: the first k ends are written, and e is the next. Assumes nothing.
use Prim.Native.Nat.{◌+◌, ◌-◌, ◌≤◌, ◌<◌}
use mathlib.Core.Path.{◌≡◌}
use lib.ListN.{length}
use Rattle.vocabulary.specs.Intervals.{listed}
use Rattle.layout.specs.Limits.{most_parts}
use Rattle.word_lists.specs.Putting.{Put}
use Rattle.part_start_lists.specs.Starting.{ends_by}
use Rattle.part_start_lists.proofs.inner.put_ends.Given as goal

abbrev pub invariant-loop-k : goal.invariant-loop-k
invariant-loop-k l = (l.k ≤ most_parts) × (l.t ≡ l.s + l.k) × (length l.b ≡ length l.initial.b) × (l.e < 65536) × (l.e ≡ ends_by l.counts l.base l.k)
    × Put l.initial.b l.b l.s l.t (listed 0 l.k (ends_by l.counts l.base))

abbrev pub decreases-loop-k : goal.decreases-loop-k
decreases-loop-k l = most_parts - l.k
