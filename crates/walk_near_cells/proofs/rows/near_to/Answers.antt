-- `walk_near_cells::rows::near_to` meets its contract. Assumes nothing.
use mathlib.Core.Path.{refl}
use native.Mathlib.Omega.{arith}
use Rattle.walk_steps.proofs.NoteLaws.{begin}
use Rattle.walk_near_cells.proofs.NearLaws.{cell_small}
use Rattle.walk_near_cells.proofs.RowLaws.{next_mark, begin_next, lowers, near_row, under_more}
use borrow.Author.Rules.{rules}
use Rattle.walk_near_cells.proofs.rows.near_to.Goals as goal

pub walk_down-n-requires : goal.walk_down-n-requires
walk_down-n-requires c = (c.requires.0.ground.turned.mesh, c.requires.0.sized, c.requires.1, (c.requires.2, tt), begin _ _ _ c.requires.4 (search rules), search rules)

pub visit-own-requires : goal.visit-own-requires
visit-own-requires c = (
  begin_next _ _ _ _ _ c.walk_down-n.ensures.gathered (search rules),
  search rules,
  (cell_small _ _ c.requires.0.ground.turned.mesh c.requires.2).0,
  (cell_small _ _ c.requires.0.ground.turned.mesh c.requires.2).1,
)

pub walk_up-requires : goal.walk_up-requires
walk_up-requires c = (c.requires.0, lowers _ _ _ _ _ _ c.walk_down-n.ensures.all c.requires.1, c.visit-own.ensures.gathered, c.visit-own.ensures.few)

pub returns : goal.returns
returns c = (
  near_row _ _ _ _ _ _ c.walk_down-n.ensures.all _ _ _ _ _ _ _ c.requires.2 c.visit-own.ensures.all c.walk_up.ensures,
  c.walk_up.ensures.few,
  under_more _ _ _ (omega arith) (next_mark _ _ _ _ c.walk_up.ensures.gathered),
  c.walk_up.ensures.gathered.room,
  refl,
)
