-- `part_calls::settled::all_written` meets its contract. Assumes nothing.
use Rattle.part_calls.proofs.SettledLaws.{written_told}
use Rattle.part_calls.proofs.settled.all_written.Goals as goal

pub returns : goal.returns
returns c = search written_told
