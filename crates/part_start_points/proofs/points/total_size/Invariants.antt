-- `part_start_points::points::total_size` meets its contract. The invariant: the cells at the first k points are counted. Assumes nothing.
use mathlib.Core.Path.{◌≡◌}
use Prim.Native.Nat.{◌-◌, ◌*◌, ◌≤◌}
use Rattle.layout.specs.Limits.{record_places}
use Rattle.walk_incidence.specs.Links.{seen}
use Rattle.part_start_points.specs.Points.{size_ends}
use Rattle.part_start_points.proofs.points.total_size.Given as goal

abbrev pub invariant-loop-k : goal.invariant-loop-k
invariant-loop-k l = (l.k ≤ l.n) × (l.e ≤ record_places * l.k) × (l.e ≡ size_ends (seen l.incidence) l.list l.k)

abbrev pub decreases-loop-k : goal.decreases-loop-k
decreases-loop-k l = l.n - l.k
