-- `show_points` meets what it calls asks: a mesh has no more points than there may be elements, and the words of the points are as many whatever arrays have the chains
-- turned round, so they have the room that the counts tell of. Assumes nothing.
use mathlib.Core.List.{[]}
use mathlib.Core.Path.{ap, ◌∙◌}
use native.Mathlib.Omega.{arith}
use lib.ListN.{length, length-replicate}
use Rattle.walk_incidence.specs.Links.{Inverted, seen}
use Rattle.part_start_points.proofs.SplitPoints.{points_low, points_counted, cells_counted, words_counted}
use Rattle.vectors_inner.proofs.show_points.Goals as goal

pub count_points-counts-requires : goal.count_points-counts-requires
count_points-counts-requires c = points_low _ c.requires.inverted.mesh _ c.sought_of-sought.ensures.2

pub add_points-end-requires : goal.add_points-end-requires
add_points-end-requires c =
    let turned = c.requires in
    let part = c.sought_of-sought.result.part in
    let sought = c.sought_of-sought.ensures in
    let viewed : Inverted c.args.m.now (seen c.view.result) = rw c.view.ensures turned.inverted in
    let points = points_counted _ 0 _ [] _ viewed _ _ _ sought.1 sought.2 _ c.count_points-counts.ensures.0 in
    let cells = cells_counted _ 0 _ [] _ viewed _ _ _ sought.1 sought.2 _ c.count_points-counts.ensures.1 in (
      turned.inverted.mesh,
      turned.roomed.cell_room,
      turned.roomed.prev_room,
      ap length (c.fill.ensures.after (λ y e. e)) ∙ length-replicate _ 0 ∙ turned.roomed.last_room,
      points_low _ turned.inverted.mesh _ sought.2,
      record {
        there = λ w T. omega (arith, points, cells, words_counted _ 0 c.args.owners.now [] w T.inverted part _ _ sought.1 sought.2);
        few = λ w T. omega (arith, points, cells, words_counted _ 0 c.args.owners.now [] w T.inverted part _ _ sought.1 sought.2);
      },
    )
