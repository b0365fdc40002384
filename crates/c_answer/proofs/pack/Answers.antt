-- `c_answer::pack` meets its contract. Assumes nothing.
use Rattle.c_answer.proofs.PackedLaws.{packs_done, packs_refused}
use Rattle.c_answer.proofs.pack.Goals as goal

pub returns-in-Ok : goal.returns-in-Ok
returns-in-Ok c k = packs_done c.E.Into.converts _ _ k.in-Ok.is k.from.ensures

pub returns-in-Err : goal.returns-in-Err
returns-in-Err c k = packs_refused c.E.Into.converts _ k.in-Err.is _ k.into-number.ensures _ k.from-in-Err.ensures
