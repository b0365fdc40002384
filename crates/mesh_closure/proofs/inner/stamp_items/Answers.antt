-- `mesh_closure::inner::stamp_items` meets its contract. The invariant: marking what is left gives what marking the whole row gives. Assumes nothing.
use mathlib.Core.Path.{refl}
use Rattle.mesh_closure.proofs.RowLaws.{stamp_done, stamp_turn}
use borrow.Author.Rules.{rules}
use Rattle.mesh_closure.proofs.inner.stamp_items.Goals as goal

pub loop-g-init : goal.loop-g-init
loop-g-init c = (refl, refl)

pub loop-g-preserved : goal.loop-g-preserved
loop-g-preserved c = (search rules, search stamp_turn)

pub returns : goal.returns
returns c = search stamp_done
