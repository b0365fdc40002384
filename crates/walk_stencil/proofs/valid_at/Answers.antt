-- `walk_stencil::valid_at` meets its contract. Assumes nothing.
use Rattle.walk_stencil.proofs.StencilLaws.{right_even, right_odd}
use Rattle.walk_stencil.proofs.valid_at.Goals as goal

pub returns-then-k-eq0 : goal.returns-then-k-eq0
returns-then-k-eq0 c = search right_even

pub returns-else-k-eq0 : goal.returns-else-k-eq0
returns-else-k-eq0 c = search right_odd
