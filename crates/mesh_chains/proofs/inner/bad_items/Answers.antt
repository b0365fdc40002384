-- `mesh_chains::inner::bad_items` meets its contract. The invariant: meeting what is left gives what meeting the whole row gives. Assumes nothing.
use mathlib.Core.Path.{refl}
use Rattle.mesh_chains.proofs.StretchLaws.{items_done, items_zero, items_above, items_again, items_turn}
use borrow.Author.Rules.{rules}
use Rattle.mesh_chains.proofs.inner.bad_items.Goals as goal
use Rattle.mesh_chains.proofs.inner.bad_items.Goals.{then-g-lt1-via-then-g-lt1, then-g-lt1-via-else-g-lt1+then-low-g, then-g-lt1-via-else-g-lt1+else-low-g+then-marks-g}

pub loop-item-init : goal.loop-item-init
loop-item-init c = (refl, refl)

pub returns-then-g-lt1 : goal.returns-then-g-lt1
returns-then-g-lt1 c = elim c.then-g-lt1.branch [
  | then-g-lt1-via-then-g-lt1 w ↦ items_zero _ _ _ _ _ _ c.loop-item.invariant.1 c.loop-item-test.true _ c.from-g.ensures w.if-g-lt1.true
  | then-g-lt1-via-else-g-lt1+then-low-g w ↦ items_above _ _ _ _ _ _ c.loop-item.invariant.1 c.loop-item-test.true _ c.from-g.ensures w.if-low-g.true
  | then-g-lt1-via-else-g-lt1+else-low-g+then-marks-g w ↦
      items_again _ _ _ _ _ _ c.loop-item.invariant.1 c.loop-item-test.true _ c.from-g.ensures w.if-g-lt1.false w.if-low-g.false w.if-marks-g.true
]

pub loop-item-preserved : goal.loop-item-preserved
loop-item-preserved c = (search rules, search items_turn)

pub returns : goal.returns
returns c = search items_done
