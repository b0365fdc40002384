-- `part_take::store` meets its contract. Assumes nothing.
use Rattle.part_take.proofs.TakeLaws.{store_told}
use Rattle.part_take.proofs.store.Goals as goal

pub returns : goal.returns
returns c = search store_told
