-- `jemlayos::jem_check_mesh` meets its contract. Assumes nothing.
use Rattle.c_answer.proofs.PackedLaws.{packs_as}
use Rattle.jemlayos.proofs.jem_check_mesh.Goals as goal

pub returns : goal.returns
returns c = search packs_as
