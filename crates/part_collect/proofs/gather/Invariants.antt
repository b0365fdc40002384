-- `part_collect::gather` meets its contract. The invariant: the depths of the cells before l are put. Assumes nothing.
use mathlib.Core.Path.{◌≡◌}
use Prim.Native.Nat.{◌+◌, ◌-◌, ◌≤◌}
use lib.ListN.{length}
use Rattle.part_calls.specs.States.{lists_at, changes_at}
use Rattle.part_calls.specs.Calls.{collected_in}
use Rattle.part_collect.proofs.gather.Given as goal

abbrev pub invariant-loop-l : goal.invariant-loop-l
invariant-loop-l l = (l.l-end ≡ l.owned + 1) × (1 ≤ l.l) × (l.l ≤ l.owned + 1) × (length l.f ≡ length l.initial.f)
    × (l.f ≡ collected_in (lists_at l.s) (changes_at l.s) l.s.bytes.now (l.l - 1) l.initial.f)

abbrev pub decreases-loop-l : goal.decreases-loop-l
decreases-loop-l l = l.l-end - l.l
