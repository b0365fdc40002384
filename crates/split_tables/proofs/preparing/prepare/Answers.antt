-- `split_tables::preparing::prepare` meets its contract. Assumes nothing.
use mathlib.Core.List.{[]}
use mathlib.Core.Path.{ap, ◌∙◌}
use Rattle.mesh.specs.Mesh.{cell_count}
use native.Mathlib.Omega.{arith}
use Rattle.vocabulary.proofs.ListLaws.{zeros}
use Rattle.layout.specs.Limits.{element_places}
use Rattle.mesh.proofs.AcceptedLaws.{cells_few}
use Rattle.mesh.proofs.MeetLaws.{under_none}
use Rattle.split.proofs.SplitLaws.{map_facts}
use Rattle.walk_reach_table.proofs.SizeLaws.{present}
use Rattle.split_tables.proofs.PreparedLaws.{tables_held, tables_passed, tables_prepared}
use Rattle.split_tables.proofs.preparing.prepare.Goals as goal

pub reach_all-requires : goal.reach_all-requires
reach_all-requires c = (c.new-walker.ensures.0, under_none, zeros element_places)

pub count_holders-held-requires : goal.count_holders-held-requires
count_holders-held-requires c = (
  cells_few _ _ c.requires.0 (c.new-walker.ensures.0.sized.cells_is ∙ ap (λ r. cell_count r.now) c.new-walker.ensures.1),
  (map_facts _ _ _ [] c.requires.1).few,
  c.requires.4,
  c.requires.3,
  omega (arith, (present _ _ _ c.if-is_none.ensures c.reach_all.ensures).1.1),
)

pub returns-then-held-gt-MOST_HELD : goal.returns-then-held-gt-MOST_HELD
returns-then-held-gt-MOST_HELD c =
    let T = rw (c.new-walker.ensures.1, c.new-walker.ensures.2) at (present _ _ _ c.if-is_none.ensures c.reach_all.ensures) in (
      tables_held _ _ _ _ _ _ _ _ T.1.0 c.requires.1 _ (c.new-walker.ensures.0.sized.cells_is ∙ ap (λ r. cell_count r.now) c.new-walker.ensures.1) _ _ c.count_holders-held.ensures
          c.if-held-gt-MOST_HELD.true,
      tt,
      c.invert.ensures,
    )

pub returns : goal.returns
returns c =
    let T = rw (c.new-walker.ensures.1, c.new-walker.ensures.2) at (present _ _ _ c.if-is_none.ensures c.reach_all.ensures) in
    let n = c.new-walker.ensures.0.sized.cells_is ∙ ap (λ r. cell_count r.now) c.new-walker.ensures.1 in (
      tables_passed _ _ _ _ _ _ _ _ T.1.0 c.requires.1 _ n _ _ c.count_holders-held.ensures c.if-held-gt-MOST_HELD.false,
      tables_prepared _ _ _ _ _ _ _ _ T.1.0 c.requires.1 _ n _ _ c.count_holders-held.ensures c.requires.0 c.requires.2,
      c.invert.ensures,
    )
