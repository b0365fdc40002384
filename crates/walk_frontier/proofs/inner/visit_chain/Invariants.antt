-- `walk_frontier::inner::visit_chain` meets its contract. The invariant: what was gathered with what is left of the chain is what is wanted. Assumes nothing.
use mathlib.Core.Path.{◌≡◌}
use mathlib.Core.List.{map}
use Prim.Native.Nat.{◌+◌, ◌-◌, ◌<◌, ◌≤◌}
use Rattle.layout.specs.Limits.{most_elements}
use Rattle.mesh.specs.Mesh.{element_in, follow}
use Rattle.walk_frontier.specs.Visits.{Frontier, Toward, Grown, with, between}
use Rattle.walk_frontier.proofs.inner.visit_chain.Given as goal

abbrev pub invariant-loop-k : goal.invariant-loop-k
invariant-loop-k l =
    (l._k-end ≡ l.sizes.records + 1) × (l.i < 65536) × (l.s ≤ most_elements) × Grown l.initial.found l.count l.found l.s × Frontier l.mark l.marks l.found l.s
    × Toward l.found l.s (between l.lo l.hi (map (element_in l.m) (follow l.m (l._k-end - l._k) l.i)))
    (with l.initial.found l.count (between l.lo l.hi (map (element_in l.m) (follow l.m (l.sizes.records + 1) l.h))))

abbrev pub decreases-loop-k : goal.decreases-loop-k
decreases-loop-k l = l._k-end - l._k
