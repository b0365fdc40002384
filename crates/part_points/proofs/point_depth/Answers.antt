-- `part_points::point_depth` meets its contract. Assumes nothing.
use Rattle.part_points.proofs.PointLaws.{end_small, point_ready, point_told}
use Rattle.part_points.proofs.point_depth.Goals as goal

pub count_between-requires : goal.count_between-requires
count_between-requires c =
    let pre = c.requires in
    end_small _ _ _ c.args.s.opened _ pre.0 _ pre.2 pre.3 _ c.point_ends_word.ensures

pub plain_mean-requires : goal.plain_mean-requires
plain_mean-requires c =
    let pre = c.requires in
    point_ready _ _ _ c.args.s.opened _ pre.0 _ pre.2 pre.3 _ c.point_ends_word.ensures _ _ _ c.point_cells_word.ensures c.word_at.ensures.0
    c.count_between.ensures.0 pre.1

pub returns : goal.returns
returns c =
    let pre = c.requires in (
      point_told _ _ _ c.args.s.opened _ pre.0 _ pre.2 pre.3 _ c.point_ends_word.ensures _ _ _ c.point_cells_word.ensures c.word_at.ensures.0
          c.count_between.ensures.0 _ c.plain_mean.ensures.0,
      c.plain_mean.ensures.1,
    )
