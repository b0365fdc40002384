-- `split::maps::mark_owners` meets its contract. The invariant: the owners of the cells before q are marked. Assumes nothing.
use mathlib.Core.Path.{refl}
use Rattle.split.proofs.MapLaws.{seen_start, seen_turn, seen_end}
use borrow.Author.Rules.{rules}
use Rattle.split.proofs.maps.mark_owners.Goals as goal

pub loop-q-init : goal.loop-q-init
loop-q-init c = (search rules, refl, search seen_start)

pub loop-q-preserved : goal.loop-q-preserved
loop-q-preserved c = (search rules, search rules, search seen_turn)

pub returns : goal.returns
returns c = search seen_end
