-- `walk_near_cells::levels::walk_near` meets its contract. The invariant: the walks of 2j steps are done. Assumes nothing.
use native.Mathlib.Omega.{arith}
use Rattle.mesh.proofs.WalkLaws.{stencil_parts}
use Rattle.walk_near_cells.proofs.NearLaws.{cell_small, none_listed, level_none, fits_at, level_next, layered_all, within_all}
use borrow.Author.Rules.{rules}
use Rattle.walk_near_cells.proofs.levels.walk_near.Goals as goal

pub reach_cell-met-requires : goal.reach_cell-met-requires
reach_cell-met-requires c = (
  search rules,
  (cell_small _ _ c.requires.0.mesh c.requires.2).0,
  (cell_small _ _ c.requires.0.mesh c.requires.2).1,
  none_listed _ _ c.requires.3 c.requires.4,
)

pub loop-j-init : goal.loop-j-init
loop-j-init c = (search rules, level_none _ _ _ _ _ _ _ _ c.requires.3 c.reach_cell-met.ensures)

pub reach_level-s-requires : goal.reach_level-s-requires
reach_level-s-requires c = (
  fits_at _ _ _ _ c.requires.0 _ c.requires.2 _ c.requires.1 _ _ _ _ _ c.loop-j.invariant.1 (search rules),
  omega (arith, (stencil_parts _ _ c.requires.0.stencil).1),
  c.loop-j.invariant.1.listed,
)

pub loop-j-preserved : goal.loop-j-preserved
loop-j-preserved c = (
  search rules,
  level_next _ _ _ _ c.requires.0 _ c.requires.2 _ c.requires.1 _ _ _ _ _ c.loop-j.invariant.1 _ _ _ (search rules) c.reach_level-s.ensures,
)

pub overflow_cast-j : goal.overflow_cast-j
overflow_cast-j c = omega (arith, (stencil_parts _ _ c.requires.0.stencil).1)

pub returns : goal.returns
returns c = (
  layered_all _ _ _ _ c.requires.0 _ c.requires.2 _ c.requires.1 _ _ _ _ _ c.loop-j.invariant.1 (search rules) (search rules),
  within_all _ _ _ _ c.requires.0 _ c.requires.2 _ c.requires.1 _ _ _ _ _ c.loop-j.invariant.1 (search rules) (search rules) _ _ c.widen.ensures.2,
  c.loop-j.invariant.1.listed.room,
)
