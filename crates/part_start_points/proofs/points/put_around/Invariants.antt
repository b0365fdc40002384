-- `part_start_points::points::put_around` meets its contract. The invariant: the cells at the points before the k-th are written. Assumes nothing.
use mathlib.Core.Path.{◌≡◌}
use Prim.Native.Nat.{◌+◌, ◌-◌, ◌≤◌}
use lib.ListN.{length}
use Rattle.vocabulary.specs.Intervals.{blocks}
use Rattle.word_lists.specs.Putting.{Put}
use Rattle.walk_incidence.specs.Links.{seen}
use Rattle.part_start_points.specs.Points.{around_on}
use Rattle.part_start_points.proofs.points.put_around.Given as goal

abbrev pub invariant-loop-k : goal.invariant-loop-k
invariant-loop-k l =
    (l.k-end ≡ l.n + 1) × (1 ≤ l.k) × (l.k ≤ l.n + 1) × (length l.b ≡ length l.initial.b) × Put l.initial.b l.b l.s l.t (blocks 1 (l.k - 1) (around_on (seen l.incidence) l.local l.list))

abbrev pub decreases-loop-k : goal.decreases-loop-k
decreases-loop-k l = l.k-end - l.k
