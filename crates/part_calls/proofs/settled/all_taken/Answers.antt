-- `part_calls::settled::all_taken` meets its contract. Assumes nothing.
use Rattle.part_calls.proofs.SettledLaws.{taken_told}
use Rattle.part_calls.proofs.settled.all_taken.Goals as goal

pub returns : goal.returns
returns c = search taken_told
