-- `jemlayos::jem_copied` meets its contract. Assumes nothing.
use Rattle.c_answer.proofs.PackedLaws.{packs_as}
use borrow.Author.Rules.{rules}
use Rattle.jemlayos.proofs.jem_copied.Goals as goal

pub returns : goal.returns
returns c = (search packs_as, search rules)
