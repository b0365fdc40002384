-- `part_start_points::points::put_points` meets its contract. Assumes nothing.
use Rattle.part_start_points.proofs.FoundLaws.{found_fits, found_none, found_locals}
use Rattle.part_start_points.proofs.points.put_points.Goals as goal

pub put_listed-requires : goal.put_listed-requires
put_listed-requires c =
    let pre = c.requires in
    found_fits _ _ _ c.find_points-n.ensures.0 _ _ _ pre.1 pre.2

pub returns-then-outside : goal.returns-then-outside
returns-then-outside c =
    found_none _ _ _ c.find_points-n.ensures.0 _ _ _ _ _ _ _
    c.if-outside.true c.put_listed.ensures

pub put_listed-requires-2 : goal.put_listed-requires-2
put_listed-requires-2 c =
    let pre = c.requires in
    found_fits _ _ _ c.find_points-n.ensures.0 _ _ _ pre.1 pre.2

pub returns : goal.returns
returns c =
    found_locals _ _ _ c.find_points-n.ensures.0 _ _ _ _ _ _ _
    c.if-outside.false c.put_listed-2.ensures
