-- `part_start_plan::inner::put_rest` meets its contract. Assumes nothing.
use Rattle.part_start_plan.proofs.PlanLaws.{rest_put}
use Rattle.part_start_plan.proofs.inner.put_rest.Goals as goal

pub returns : goal.returns
returns c = rest_put _ _ _ _ _ _ _ _ c.requires.0 c.clear.ensures c.put_cells.ensures
