-- `part_state::lists::valid_rows` meets its contract. The invariant: the rows so far are valid, and the next begins where they end. Assumes nothing.
use mathlib.Core.Path.{◌≡◌}
use mathlib.Core.Bool.{true}
use Prim.Native.Nat.{◌+◌, ◌-◌, ◌≤◌}
use Rattle.vocabulary.specs.Intervals.{every}
use Rattle.part_state.specs.State.{reach_end}
use Rattle.part_state.specs.Checks.{valid_row}
use Rattle.part_state.proofs.lists.valid_rows.Given as goal

abbrev pub invariant-loop-l : goal.invariant-loop-l
invariant-loop-l l = (l.l-end ≡ 1 + l.fn.sizes.owned) × (1 ≤ l.l) × (l.l ≤ 1 + l.fn.sizes.owned) × (l.from ≡ reach_end l.lists (l.l - 1))
    × (every 1 (l.l - 1) (valid_row l.lists) ≡ true)

abbrev pub decreases-loop-l : goal.decreases-loop-l
decreases-loop-l l = l.l-end - l.l
