-- `part_start_points::trails::put_trail` meets its contract. The invariant: the rest of the cells completes what is written. Assumes nothing.
use mathlib.Core.List.{map}
use Rattle.walk_incidence.specs.Links.{cells_on, seen}
use Rattle.walk_incidence.specs.Trails.{rest}
use Rattle.part_start_lists.specs.Starting.{local_in}
use Rattle.part_start_points.proofs.TrailSteps.{PutLeft}
use Rattle.part_start_points.proofs.trails.put_trail.Given as goal

abbrev pub invariant-loop-c : goal.invariant-loop-c
invariant-loop-c l =
    (goal.iterator-loop-c).can_next l.c-iterator × (goal.iterator-loop-c).is_finite l.c-iterator
    × PutLeft l.initial.b l.b l.s l.u (map (local_in l.local) (rest l.c-iterator)) (map (local_in l.local) (cells_on (seen l.incidence) l.e))
