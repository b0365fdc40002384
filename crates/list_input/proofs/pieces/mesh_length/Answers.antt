-- `list_input::pieces::mesh_length` meets its contract. Assumes nothing.
use Rattle.list_input.proofs.PieceLaws.{mesh_length_told}
use Rattle.list_input.proofs.pieces.mesh_length.Goals as goal

pub returns : goal.returns
returns c = search mesh_length_told
