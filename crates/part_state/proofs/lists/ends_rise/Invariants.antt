-- `part_state::lists::ends_rise` meets its contract. The invariant: the ends so far rise. Assumes nothing.
use mathlib.Core.Path.{◌≡◌}
use mathlib.Core.Bool.{true}
use Prim.Native.Nat.{◌+◌, ◌-◌, ◌<◌, ◌≤◌}
use Rattle.layout.specs.Words.{word_at}
use Rattle.vocabulary.specs.Intervals.{every}
use Rattle.part_state.specs.Checks.{rise_at}
use Rattle.part_state.proofs.lists.ends_rise.Given as goal

abbrev pub invariant-loop-j : goal.invariant-loop-j
invariant-loop-j g l = (l.j ≤ l.n) × (l.end < 65536) × (l.end ≡ word_at l.lists (l.a + l.j)) × (every 0 l.j (rise_at l.lists l.a g.row.BY) ≡ true)

abbrev pub decreases-loop-j : goal.decreases-loop-j
decreases-loop-j g l = l.n - l.j
