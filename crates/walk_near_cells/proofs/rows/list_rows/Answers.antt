-- `walk_near_cells::rows::list_rows` meets its contract. The invariant: the rows of the first q cells are listed. Assumes nothing.
use mathlib.Core.Path.{ap, sym, subst}
use Prim.Native.Nat.{◌+◌}
use native.Mathlib.Omega.{arith}
use Rattle.walk_near_cells.specs.NearCells.{Filled}
use Rattle.walk_near_cells.proofs.RowLaws.{rows_turn, under_more}
use borrow.Author.Rules.{rules}
use Rattle.walk_near_cells.proofs.rows.list_rows.Goals as goal

pub loop-q-preserved : goal.loop-q-preserved
loop-q-preserved c = (
  search rules,
  under_more _ _ _ (omega arith) c.near_to-s.ensures.2,
  search rules,
  search rules,
  rows_turn _ _ _ _ _ _ _ _ _ (subst (λ l. Filled c.args.walker.mesh.now c.args.a l c.args.w c.loop-q.q) (sym c.near_to-s.ensures.4) c.loop-q.invariant.4)
      c.near_to-s.ensures.0 (ap (λ x. x + c.loop-q.q) c.requires.0.sized.first_is) c.if-w-s.false
      (search rules) c.put_row.ensures,
)
