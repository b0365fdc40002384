-- `part_start_plan::inner::draw_plan` meets its contract. Assumes nothing.
use mathlib.Core.Path.{refl, ap, ◌∙◌}
use Rattle.part_start_lists.specs.Starting.{export_tally}
use Rattle.part_start_points.proofs.SplitPoints.{points_low}
use Rattle.part_start_plan.proofs.PlanLaws.{plan_fitting, plan_points, plan_around, plan_made}
use Rattle.part_start_plan.proofs.inner.draw_plan.Goals as goal

pub count_points-points-requires : goal.count_points-points-requires
count_points-points-requires c =
    points_low _ c.requires.2.mesh _ c.sought_of.ensures.2

pub make_plan-requires : goal.make_plan-requires
make_plan-requires c =
    let pre = c.requires in
    let sought = c.sought_of.ensures in
    let points = c.count_points-points.ensures in (
      plan_fitting _ _ _ _ _ _ _ _ pre.0 pre.1 pre.2 _ _ _ _ refl refl c.first_cell.ensures c.cell_count.ensures.0,
      c.count_exports-sent.ensures.1,
      plan_points _ _ _ _ _ _ _ _ pre.0 pre.1 pre.2 _ pre.3 _ _ _ _ _ sought.0 sought.1 sought.2 points.0 points.1,
      plan_around _ _ _ _ _ _ _ _ pre.0 pre.1 pre.2 _ pre.3 _ _ _ _ _ sought.0 sought.1 sought.2 points.0 points.1,
      pre.4,
      pre.5,
      pre.6,
    )

pub returns : goal.returns
returns c =
    let pre = c.requires in
    let sought = c.sought_of.ensures in
    let points = c.count_points-points.ensures in
    let told = c.make_plan.ensures in
    let cells = c.cell_count.ensures.0 in
    plan_made _ _ _ _ _ _ _ _ pre.0 pre.1 pre.2 _ pre.3 _ _ _ _ _ sought.0 sought.1 sought.2 points.0 points.1 _ (ap (λ a. a.parts) told.0) (ap (λ a. a.part) told.0)
    (ap (λ a. a.first) told.0 ∙ c.first_cell.ensures) (ap (λ a. a.cells) told.0 ∙ cells) _ _ told.2 told.3
    (told.1 ∙ c.count_exports-sent.ensures.0 ∙ ap (export_tally _ _ _) cells)
