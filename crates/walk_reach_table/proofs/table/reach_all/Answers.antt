-- `walk_reach_table::table::reach_all` meets its contract. The invariant: the reaches of the first q cells are in the table. Assumes nothing.
use mathlib.Core.Path.{refl}
use native.Mathlib.Omega.{arith}
use Rattle.mesh.proofs.AcceptedLaws.{cells_few}
use Rattle.mesh.proofs.WalkLaws.{stencil_parts}
use Rattle.walk_near_cells.proofs.RowLaws.{cell_at}
use Rattle.walk_reach_table.proofs.ReachLaws.{table_start, ends_start, table_turn, ends_turn, table_over, table_end}
use borrow.Author.Rules.{rules}
use Rattle.walk_reach_table.proofs.table.reach_all.Goals as goal

pub loop-q-init : goal.loop-q-init
loop-q-init c = (search rules, search rules, c.near_rows-rows.ensures, table_start _ _ _, ends_start _ _ c.args.reaches.now.ends _ (search rules) refl)

pub reach_of-requires : goal.reach_of-requires
reach_of-requires c = (
  c.requires.0,
  cell_at _ c.requires.0.ground.turned.mesh _ _ _ c.requires.0.sized.first_is c.requires.0.sized.cells_is c.loop-q-test.true,
  c.loop-q.invariant.2,
  omega (arith, c.loop-q.invariant.1, cells_few _ _ c.requires.0.ground.turned.mesh c.requires.0.sized.cells_is),
  c.loop-q.invariant.3.few,
)

pub returns-in_err-t : goal.returns-in_err-t
returns-in_err-t c = rw c.from_residual.ensures (table_over _ _ _ _ _ c.requires.0.sized.first_is refl _ _ _ _ c.requires.0.sized.cells_is c.loop-q-test.true c.loop-q.invariant.3 c.in_err-t.ensures)

pub loop-q-preserved : goal.loop-q-preserved
loop-q-preserved c =
    let E = table_turn _ _ _ _ _ c.requires.0.sized.first_is refl _ _ _ _ _ (search rules) c.loop-q.invariant.3 c.in_ok-t.ensures.0 in (
      search rules,
      omega (arith, c.loop-q.invariant.1, (stencil_parts _ _ c.requires.0.ground.stencil).1),
      c.in_ok-t.ensures.1,
      E,
      ends_turn _ _ _ _ _ c.requires.0.sized.first_is refl _ _ _ c.loop-q.reaches.ends _ _ c.requires.0.ground.turned.mesh c.requires.0.sized.cells_is c.loop-q-test.true
          (search rules) E c.loop-q.invariant.4 refl,
    )

pub returns : goal.returns
returns c = (
  table_end _ _ _ _ _ _ _ _ c.requires.0.sized.cells_is c.loop-q.invariant.0 c.loop-q-test.false c.loop-q.invariant.3 c.loop-q.invariant.4,
  c.loop-q.invariant.2.marks_low.size,
)
