-- `part_state::lists::Entries::are_row` meets its contract. The invariant: the entries so far are valid, and none is the cell's own. Assumes nothing.
use mathlib.Core.Path.{◌≡◌}
use mathlib.Core.Bool.{true, false}
use Prim.Native.Nat.{◌-◌, ◌≤◌}
use Rattle.vocabulary.specs.Intervals.{every, some}
use Rattle.part_state.specs.State.{valid_entry}
use Rattle.part_state.specs.Checks.{own_entry}
use Rattle.part_state.proofs.lists.Entries.are_row.Given as goal

abbrev pub invariant-loop-t : goal.invariant-loop-t
invariant-loop-t l = (l.from ≤ l.t) × (l.t ≤ l.to) × (every l.from (l.t - l.from) (valid_entry l.self.lists.now) ≡ true)
    × (some l.from (l.t - l.from) (own_entry l.self.lists.now l.l) ≡ false)

abbrev pub decreases-loop-t : goal.decreases-loop-t
decreases-loop-t l = l.to - l.t
