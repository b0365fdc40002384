-- `split_ranges::inner::classify_lowers` meets its contract. The invariant: the elements before q have their classes. Assumes nothing.
use Prim.Native.Nat.{◌+◌, ◌-◌, ◌≤◌, ◌<◌}
use Rattle.layout.specs.Limits.{most_elements}
use Rattle.walk_incidence.specs.Links.{seen}
use Rattle.split_ranges.proofs.LowerLaws.{Trailed}
use Rattle.split_ranges.proofs.inner.classify_lowers.Given as goal

abbrev pub invariant-loop-q : goal.invariant-loop-q
invariant-loop-q l = (l.below + l.n < 65535) × (l.n ≤ most_elements) × (l.q ≤ l.n) × Trailed (seen l.incidence) l.first l.class l.holders l.below l.q l.lower

abbrev pub decreases-loop-q : goal.decreases-loop-q
decreases-loop-q l = l.n - l.q
