-- `walk_stencil::bad_stencil` meets its contract. Assumes nothing.
use Rattle.walk_stencil.proofs.StencilLaws.{stencil_odd_length, stencil_long, stencil_places}
use Rattle.walk_stencil.proofs.bad_stencil.Goals as goal

pub returns-then-stencil-ne1 : goal.returns-then-stencil-ne1
returns-then-stencil-ne1 c = search stencil_odd_length

pub returns-then-stencil-gt-STENCIL_BYTES : goal.returns-then-stencil-gt-STENCIL_BYTES
returns-then-stencil-gt-STENCIL_BYTES c = search stencil_long

pub returns : goal.returns
returns c = search stencil_places
