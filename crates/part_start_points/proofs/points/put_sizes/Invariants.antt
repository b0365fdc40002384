-- `part_start_points::points::put_sizes` meets its contract. The invariant: the first k ends are written, and e is the next. Assumes nothing.
use Prim.Native.Nat.{◌+◌, ◌-◌, ◌≤◌, ◌<◌}
use mathlib.Core.Path.{◌≡◌}
use lib.ListN.{length}
use Rattle.vocabulary.specs.Intervals.{listed}
use Rattle.word_lists.specs.Putting.{Put}
use Rattle.walk_incidence.specs.Links.{seen}
use Rattle.part_start_points.specs.Points.{size_ends}
use Rattle.part_start_points.proofs.points.put_sizes.Given as goal

abbrev pub invariant-loop-k : goal.invariant-loop-k
invariant-loop-k l =
    (l.k ≤ l.n) × (l.t ≡ l.s + l.k) × (length l.b ≡ length l.initial.b) × (l.e < 65536) × (l.e ≡ size_ends (seen l.incidence) l.list l.k)
    × Put l.initial.b l.b l.s l.t (listed 0 l.k (size_ends (seen l.incidence) l.list))

abbrev pub decreases-loop-k : goal.decreases-loop-k
decreases-loop-k l = l.n - l.k
