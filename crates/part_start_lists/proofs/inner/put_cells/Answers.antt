-- `part_start_lists::inner::put_cells` meets its contract. The invariant: the depths of the cells before l are copied. Assumes nothing.
use mathlib.Core.Path.{refl}
use Rattle.vocabulary.proofs.IntervalLaws.{stored_start, stored_up}
use Rattle.part_start_lists.proofs.StartLists.{held_low, held_room, held_turn}
use borrow.Author.Rules.{rules}
use Rattle.part_start_lists.proofs.inner.put_cells.Goals as goal

pub loop-l-init : goal.loop-l-init
loop-l-init c = (refl, search rules, search rules, search rules, search stored_start)

pub place_at-q-requires : goal.place_at-q-requires
place_at-q-requires c = (search rules, search held_low)

pub copy-requires : goal.copy-requires
copy-requires c = (search rules, search held_room)

pub loop-l-preserved : goal.loop-l-preserved
loop-l-preserved c = (search rules, search rules, search rules, search rules, search held_turn)

pub returns : goal.returns
returns c = search stored_up
