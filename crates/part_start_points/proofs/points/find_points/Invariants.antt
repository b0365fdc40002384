-- `part_start_points::points::find_points` meets its contract. The invariant: the points before p that touch the part are listed. Assumes nothing.
use mathlib.Core.Path.{◌≡◌}
use Prim.Native.Nat.{◌+◌, ◌-◌, ◌≤◌, ◌<◌}
use lib.ListN.{length}
use Rattle.walk_incidence.specs.Links.{seen}
use Rattle.part_start_points.specs.Points.{Found, points_on}
use Rattle.part_start_points.proofs.points.find_points.Given as goal

abbrev pub invariant-loop-p : goal.invariant-loop-p
invariant-loop-p l =
    (l.p-end ≡ l.sought.points + 1) × (1 ≤ l.p) × (l.p ≤ l.sought.points + 1) × (l.n < l.p) × (length l.list ≡ length l.initial.list)
    × Found l.list l.n (points_on (seen l.incidence) l.owners l.sought.first l.sought.part (l.p - 1))

abbrev pub decreases-loop-p : goal.decreases-loop-p
decreases-loop-p l = l.p-end - l.p
