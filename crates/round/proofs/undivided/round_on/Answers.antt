-- `round::undivided::round_on` meets its contract. Assumes nothing.
use Rattle.mesh.proofs.AcceptedLaws.{accepted_mesh}
use Rattle.walk_reach_table.proofs.SizeLaws.{present, absent}
use Rattle.round.proofs.UndividedLaws.{told_13, told_14, told_16, told_done, rows_ready}
use Rattle.round.proofs.undivided.round_on.Goals as goal

pub reach_table-requires : goal.reach_table-requires
reach_table-requires c = (accepted_mesh _ c.requires.0, c.requires.1, c.requires.3)

pub returns-then-is_none : goal.returns-then-is_none
returns-then-is_none c = told_13 _ _ _ _ _ _ c.requires.0 c.requires.1 c.requires.2 (absent _ _ _ c.if-is_none.ensures c.reach_table.ensures)

pub returns-then-bad_field : goal.returns-then-bad_field
returns-then-bad_field c =
    told_14 _ _ _ _ _ _ c.requires.0 c.requires.1 c.requires.2 _ _ _ _ (present _ _ _ c.if-is_none.ensures c.reach_table.ensures).1 _
    c.cell_count-cells.ensures.0 _ c.bad_field.ensures c.if-bad_field.true

pub returns-then-out-cells : goal.returns-then-out-cells
returns-then-out-cells c =
    told_16 _ _ _ _ _ _ c.requires.0 c.requires.1 c.requires.2 _ _ _ _ (present _ _ _ c.if-is_none.ensures c.reach_table.ensures).1 _
    c.cell_count-cells.ensures.0 _ c.bad_field.ensures c.if-bad_field.false c.if-out-cells.true

pub renew-requires : goal.renew-requires
renew-requires c = (
  rows_ready _ _ _ _ _ _ _ _ _ (present _ _ _ c.if-is_none.ensures c.reach_table.ensures).1 c.requires.4 c.requires.1 c.requires.2 _ c.cell_count-cells.ensures.0
      c.cell_count-cells.ensures.1 _ c.bad_field.ensures c.if-bad_field.false,
  c.if-out-cells.false,
)

pub returns : goal.returns
returns c =
    told_done _ _ _ _ _ _ c.requires.0 c.requires.1 c.requires.2 _ _ _ _ (present _ _ _ c.if-is_none.ensures c.reach_table.ensures).1 _
    c.cell_count-cells.ensures.0 _ c.bad_field.ensures c.if-bad_field.false c.requires.4 c.if-out-cells.false _ c.renew.ensures
