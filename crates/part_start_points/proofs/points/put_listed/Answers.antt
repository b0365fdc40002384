-- `part_start_points::points::put_listed` meets its contract. Assumes nothing.
use Rattle.part_start_points.proofs.FoundLaws.{fit_one, fit_list, fit_sizes, fit_around, pieces_put}
use Rattle.part_start_points.proofs.points.put_listed.Goals as goal

pub put_one-t-requires : goal.put_one-t-requires
put_one-t-requires c =
    let pre = c.requires in
    fit_one _ _ _ c.args.b.now _ pre.0 pre.1 pre.2

pub put_list-u-requires : goal.put_list-u-requires
put_list-u-requires c =
    let pre = c.requires in
    fit_list _ _ _ _ _ pre.0 pre.1 pre.2 _ _ c.put_one-t.ensures

pub put_sizes-w-requires : goal.put_sizes-w-requires
put_sizes-w-requires c =
    let pre = c.requires in
    fit_sizes _ _ _ _ _ pre.0 pre.1 pre.2 _ _ c.put_one-t.ensures _ _ c.put_list-u.ensures

pub put_around-requires : goal.put_around-requires
put_around-requires c =
    let pre = c.requires in
    fit_around _ _ _ _ _ pre.0 pre.1 pre.2 _ _ c.put_one-t.ensures _ _ c.put_list-u.ensures _ _ c.put_sizes-w.ensures

pub returns : goal.returns
returns c =
    let pre = c.requires in
    pieces_put _ _ _ _ _ pre.0 pre.1 pre.2 _ _ c.put_one-t.ensures _ _ c.put_list-u.ensures _ _
    c.put_sizes-w.ensures _ _ _ c.put_around.ensures
