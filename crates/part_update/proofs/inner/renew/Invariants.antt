-- `part_update::inner::renew` meets its contract. The invariant: the new values of the cells before l are made. Assumes nothing.
use mathlib.Core.Path.{◌≡◌}
use Prim.Native.Nat.{◌+◌, ◌-◌, ◌≤◌}
use lib.ListN.{length}
use Rattle.vocabulary.specs.Bytes.{over}
use Rattle.vocabulary.specs.Intervals.{blocks}
use Rattle.part_calls.specs.States.{lists_at, changes_at}
use Rattle.part_calls.specs.Calls.{new_at}
use Rattle.part_update.proofs.inner.renew.Given as goal

abbrev pub invariant-loop-l : goal.invariant-loop-l
invariant-loop-l l = (l.l-end ≡ l.sizes.owned + 1) × (1 ≤ l.l) × (l.l ≤ l.sizes.owned + 1) × (length l.new ≡ length l.initial.new)
    × (l.new ≡ over l.initial.new 0 (blocks 1 (l.l - 1) (new_at (lists_at l.s) (changes_at l.s) l.s.bytes.now)))

abbrev pub decreases-loop-l : goal.decreases-loop-l
decreases-loop-l l = l.l-end - l.l
