-- `part_start_lists::exports::stamp_group` meets its contract. The invariant: what is left of the group leads to the whole. Assumes nothing.
use Prim.Native.Nat.{◌-◌, ◌≤◌, ◌<◌}
use Rattle.split_classes.specs.Groups.{group}
use Rattle.part_start_lists.specs.Starting.{reached_from}
use Rattle.part_start_lists.proofs.FollowLaws.{Stamping}
use Rattle.part_start_lists.proofs.exports.stamp_group.Given as goal

abbrev pub invariant-loop-j : goal.invariant-loop-j
invariant-loop-j l =
    (l._j ≤ l.cells) × (l.link < 65536)
    × Stamping l.k l.initial.stamps l.stamps (reached_from l.table l.ends (group l.next (l.cells - l._j) l.link))
    (reached_from l.table l.ends (group l.next l.cells l.s))

abbrev pub decreases-loop-j : goal.decreases-loop-j
decreases-loop-j l = l.cells - l._j
