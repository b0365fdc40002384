-- `part_state::lists::valid_points` meets its contract. Assumes nothing.
use Rattle.std.proofs.Common.{arith}
use Rattle.std.proofs.lemmas.Grind.{common_steps}
use Rattle.part_state.proofs.ListChecks.{point_first, points_climb}
use Rattle.part_state.proofs.lists.valid_points.Goals as goal

pub returns-then-ends_rise : goal.returns-then-ends_rise
returns-then-ends_rise c =
    let ends = c.point_ends_word-ends.ensures in
    grind (arith, common_steps, point_first _ _ c.requires.counts _ ends, points_climb _ _ c.requires.counts _ ends)

pub returns-else-ends_rise : goal.returns-else-ends_rise
returns-else-ends_rise c =
    let ends = c.point_ends_word-ends.ensures in
    grind (arith, common_steps, point_first _ _ c.requires.counts _ ends, points_climb _ _ c.requires.counts _ ends)
