-- `part_start_plan::inner::add_points` meets its contract. Assumes nothing.
use Rattle.part_start_plan.proofs.inner.add_points.Goals as goal

pub put_points-requires : goal.put_points-requires
put_points-requires c =
    let pre = c.requires in
    (pre.4, pre.5.there _ c.turn.ensures, pre.5.few _ c.turn.ensures)
