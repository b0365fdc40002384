-- `jemlayos::jem_state_size` meets its contract. Assumes nothing.
use Rattle.c_answer.proofs.PackedLaws.{packs_as}
use Rattle.jemlayos.proofs.jem_state_size.Goals as goal

pub returns : goal.returns
returns c = search packs_as
