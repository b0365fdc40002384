-- `walk_frontier::inner::visit_trail` meets its contract. The invariant: what was gathered with what is left of the cells is what is wanted. Assumes nothing.
use Prim.Native.Nat.{◌≤◌}
use Rattle.vocabulary.specs.Lists.{All}
use Rattle.layout.specs.Limits.{most_elements}
use Rattle.walk_incidence.specs.Trails.{rest}
use Rattle.walk_frontier.specs.Visits.{Frontier, Toward, Grown, with}
use Rattle.walk_frontier.proofs.inner.visit_trail.Given as goal

abbrev pub invariant-loop-c : goal.invariant-loop-c
invariant-loop-c l =
    (goal.iterator-loop-c).can_next l.c-iterator × (goal.iterator-loop-c).is_finite l.c-iterator × (l.s ≤ most_elements) × Grown l.initial.found l.count l.found l.s
    × Frontier l.mark l.marks l.found l.s × All (λ y. (1 ≤ y) × (y ≤ most_elements)) (rest l.c-iterator)
    × Toward l.found l.s (rest l.c-iterator) (with l.initial.found l.count (rest l.trail))
