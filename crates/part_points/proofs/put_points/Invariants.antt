-- `part_points::put_points` meets its contract. The invariant: the points before the k-th are stored. Assumes nothing.
use mathlib.Core.Path.{◌≡◌}
use Prim.Native.Nat.{◌+◌, ◌-◌, ◌≤◌}
use lib.ListN.{length}
use Rattle.vocabulary.specs.Bytes.{over}
use Rattle.vocabulary.specs.Intervals.{blocks}
use Rattle.part_calls.specs.States.{lists_at, changes_at}
use Rattle.part_calls.specs.Calls.{point_given}
use Rattle.part_points.proofs.put_points.Given as goal

abbrev pub invariant-loop-k : goal.invariant-loop-k
invariant-loop-k l = (l.k-end ≡ l.sizes.points + 1) × (1 ≤ l.k) × (l.k ≤ l.sizes.points + 1) × (length l.out ≡ length l.initial.out)
    × (l.out ≡ over l.initial.out 0 (blocks 1 (l.k - 1) (point_given (lists_at l.s) (changes_at l.s) l.s.bytes.now)))

abbrev pub decreases-loop-k : goal.decreases-loop-k
decreases-loop-k l = l.k-end - l.k
