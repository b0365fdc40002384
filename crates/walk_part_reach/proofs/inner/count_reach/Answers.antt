-- `walk_part_reach::inner::count_reach` meets its contract. Assumes nothing.
use native.Mathlib.Omega.{arith}
use Rattle.mesh.proofs.WalkLaws.{stencil_parts}
use Rattle.walk_steps.proofs.NoteLaws.{filled}
use Rattle.walk_steps.proofs.WalkLaws.{walk_fresh}
use Rattle.walk_part_reach.proofs.RowLaws.{reach_counted, row_starts, first_small, cells_small, last_small}
use borrow.Author.Rules.{rules}
use Rattle.walk_part_reach.proofs.inner.count_reach.Goals as goal

pub row_cells-s-requires : goal.row_cells-s-requires
row_cells-s-requires c = (last_small _ _ c.requires.0.ground.turned.mesh c.requires.0.sized, search rules)

pub overflow_sub-walker : goal.overflow_sub-walker
overflow_sub-walker c = omega (arith, (stencil_parts _ _ c.requires.0.ground.stencil).0)

pub walk-requires : goal.walk-requires
walk-requires c = (
  c.requires.0,
  row_starts _ _ c.requires.0.ground.turned.mesh c.requires.0.sized _ _ _ _ c.row_cells-s.ensures,
  omega (arith, (stencil_parts _ _ c.requires.0.ground.stencil).0),
  c.requires.1,
  c.requires.2,
  filled _ c.args.space.now.layers _ (search rules) (c.fill.ensures.after (λ y e. e)),
)

pub count_row-requires : goal.count_row-requires
count_row-requires c = (
  first_small _ _ c.requires.0.ground.turned.mesh c.requires.0.sized,
  omega (arith, cells_small _ _ c.requires.0.ground.turned.mesh c.requires.0.sized),
)

pub returns : goal.returns
returns c = (
  reach_counted _ _ _ _ _ c.requires.0.ground c.requires.0.sized (omega (arith, (stencil_parts _ _ c.requires.0.ground.stencil).0)) _ _ _ _ _ _ _ _ _ _
      c.row_cells-s.ensures c.walk.ensures.0 c.count_row.ensures.0,
  omega (arith, c.count_row.ensures.1, cells_small _ _ c.requires.0.ground.turned.mesh c.requires.0.sized),
  walk_fresh _ _ _ _ _ _ _ _ _ _ (omega (arith, (stencil_parts _ _ c.requires.0.ground.stencil).0)) c.walk.ensures.0,
)
