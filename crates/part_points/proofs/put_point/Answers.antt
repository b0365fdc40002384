-- `part_points::put_point` meets its contract. Assumes nothing.
use native.Mathlib.Omega.{arith}
use Rattle.part_points.proofs.PointLaws.{point_put}
use Rattle.part_points.proofs.put_point.Goals as goal

pub returns : goal.returns
returns c =
    let pre = c.requires in
    point_put _ _ _ _ pre.0 _ _ _ c.points_word.ensures c.word_at-number.ensures.0 _ c.point_depth-x.ensures.0 _ _ _ _
    (omega (arith, pre.2, pre.3, pre.4)) c.put_word.ensures c.put_value.ensures
