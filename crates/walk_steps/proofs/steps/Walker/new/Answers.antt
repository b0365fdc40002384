-- `walk_steps::steps::Walker::new` meets its contract. Assumes nothing.
use Rattle.mesh.proofs.WalkLaws.{stencil_parts}
use Rattle.walk_steps.proofs.steps.Walker.new.Goals as goal

pub through_one-requires : goal.through_one-requires
through_one-requires c = (stencil_parts _ _ c.requires.1).1
