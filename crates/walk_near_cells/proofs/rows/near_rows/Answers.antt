-- `walk_near_cells::rows::near_rows` meets its contract. Assumes nothing.
use native.Mathlib.Omega.{arith}
use Rattle.walk_steps.proofs.NoteLaws.{filled}
use Rattle.walk_near_cells.proofs.RowLaws.{rows_fit, through, ready_steps, ready_rows}
use borrow.Author.Rules.{rules}
use Rattle.walk_near_cells.proofs.rows.near_rows.Goals as goal

pub list_rows-requires : goal.list_rows-requires
list_rows-requires c = (
  c.requires.0,
  through _ _ _ _ c.requires.0.ground c.if-walker-lt2.false c.byte_at-a.ensures,
  rows_fit _ _ _ c.requires.0.ground.turned.mesh c.requires.0.sized.cells_is (search rules),
  c.requires.1,
  c.requires.2,
)

pub returns-then-not-list_rows : goal.returns-then-not-list_rows
returns-then-not-list_rows c = ready_steps _ _ _ _ c.list_rows.ensures.1 (omega arith) (filled _ c.list_rows.new.space.layers _ c.list_rows.ensures.3 (c.fill.ensures.after (λ y e. e)))

pub returns : goal.returns
returns c =
    ready_rows _ _ _ _ c.requires.0 c.if-not-walker.false c.byte_at-a.ensures (rows_fit _ _ _ c.requires.0.ground.turned.mesh c.requires.0.sized.cells_is (search rules))
    (c.list_rows.ensures.0 c.if-not-list_rows.false) c.list_rows.ensures.1
    (filled _ c.list_rows.new.space.from _ c.list_rows.ensures.2 (c.fill-2.ensures.after (λ y e. e)))
