-- `part_start_lists::exports::add_stamped` meets its contract. The invariant: what is left of the group leads to the whole. Assumes nothing.
use mathlib.Core.Path.{◌≡◌}
use Prim.Native.Nat.{◌+◌, ◌-◌, ◌≤◌, ◌<◌}
use lib.ListN.{length}
use Rattle.split_classes.specs.Groups.{group}
use Rattle.part_start_lists.specs.Starting.{Below, class_among}
use Rattle.part_start_lists.proofs.FollowLaws.{Appending}
use Rattle.part_start_lists.proofs.exports.add_stamped.Given as goal

abbrev pub invariant-loop-j : goal.invariant-loop-j
invariant-loop-j l = (l._j ≤ l.cells) × (l.link < 65536) × (l.t ≤ l.n + l._j) × (length l.list ≡ length l.initial.list) ×
    Below l.cells (group l.next (l.cells - l._j) l.link)
    × Appending l.initial.list l.list l.n l.t (class_among l.stamps l.first l.k (group l.next (l.cells - l._j) l.link)) (class_among l.stamps l.first l.k (group l.next l.cells l.s))

abbrev pub decreases-loop-j : goal.decreases-loop-j
decreases-loop-j l = l.cells - l._j
