-- `walk_steps::steps::Walker::walk` meets its contract: by the number of steps, which falls. Assumes nothing.
use Rattle.walk_steps.proofs.steps.Walker.+walk.Given as goal

abbrev pub decreases-walk : goal.decreases-walk
decreases-walk l = l.k
