-- `walk_frontier::inner::step_down` meets its contract. The invariant: the elements from the cells so far were gathered. Assumes nothing.
use mathlib.Core.List.{[]}
use Prim.Native.Nat.{◌≤◌}
use Rattle.vocabulary.specs.Intervals.{blocks}
use Rattle.layout.specs.Limits.{most_elements}
use Rattle.walk_frontier.specs.Visits.{Frontier, Toward, Grown, with, down}
use Rattle.walk_frontier.proofs.inner.step_down.Given as goal

abbrev pub invariant-loop-j : goal.invariant-loop-j
invariant-loop-j l = (l.s ≤ most_elements) × Grown l.initial.found l.base l.found l.s × Frontier l.mark l.marks l.found l.s
    × Toward l.found l.s [] (with l.initial.found l.base (blocks 0 l.j (down l.m l.lo l.hi l.from)))
