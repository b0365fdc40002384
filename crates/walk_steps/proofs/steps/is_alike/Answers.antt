-- `walk_steps::steps::is_alike` meets its contract. Assumes nothing.
use Rattle.walk_steps.proofs.WalkLaws.{alike_told}
use Rattle.walk_steps.proofs.steps.is_alike.Goals as goal

pub returns : goal.returns
returns c = search alike_told
