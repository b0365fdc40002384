-- `walk_frontier::inner::visit_all` meets its contract. The invariant: the numbers so far were gathered. Assumes nothing.
use mathlib.Core.List.{[]}
use Prim.Native.Nat.{◌≤◌}
use lib.ListN.{take}
use Rattle.layout.specs.Limits.{most_elements}
use Rattle.walk_frontier.specs.Visits.{Frontier, Toward, with}
use Rattle.walk_frontier.proofs.inner.visit_all.Given as goal

abbrev pub invariant-loop-y : goal.invariant-loop-y
invariant-loop-y l = (l.s ≤ most_elements) × Frontier l.mark l.marks l.found l.s × Toward l.found l.s [] (with l.initial.found 0 (take l.y-index l.list))
