-- `mesh_closure::inner::any_unmarked` meets its contract. Assumes nothing.
use mathlib.Core.Path.{refl, ap}
use mathlib.Core.Bool.{not}
use borrow.Author.Tests.{eq-eqb, ne_eqb}
use Rattle.mesh.specs.Meet.{unlike}
use Rattle.mesh_closure.proofs.RowLaws.{some_done, some_found, some_turn}
use Rattle.mesh_closure.proofs.inner.any_unmarked.Goals as goal

pub loop-k-init : goal.loop-k-init
loop-k-init c = refl

pub returns-then-marks-from : goal.returns-then-marks-from
unfolding unlike
returns-then-marks-from c =
    some_found _ _ _ _ c.loop-k.invariant _ c.loop-k-test.true c.from.ensures (ap not (ne_eqb _ _ c.if-marks-from.true))

pub loop-k-preserved : goal.loop-k-preserved
unfolding unlike
loop-k-preserved c =
    some_turn _ _ _ _ c.loop-k.invariant _ c.loop-k-test.true c.from.ensures (ap not (eq-eqb _ _ c.if-marks-from.false))

pub returns : goal.returns
returns c = some_done _ _ _ _ c.loop-k.invariant c.loop-k-test.false
