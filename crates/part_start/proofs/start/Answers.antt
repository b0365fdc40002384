-- `part_start::start` meets its contract. Assumes nothing.
use mathlib.Core.Path.{refl, sym, ◌∙◌}
use Prim.Native.Nat.{ℕ}
use native.Mathlib.Omega.{arith}
use lib.ListN.{length-replicate}
use Rattle.vocabulary.proofs.ListLaws.{zeros}
use Rattle.layout.specs.Limits.{element_places, most_parts, record_places}
use Rattle.layout.proofs.AnswerLaws.{exit_answer, exit_some}
use Rattle.split.proofs.PassedLaws.{passed_facts}
use Rattle.round_rule.proofs.RuleLaws.{rule_known}
use Rattle.mesh.proofs.WalkLaws.{stencil_parts}
use Rattle.round.proofs.UndividedLaws.{rule_good}
use Rattle.part_start_lists.proofs.StartLists.{got_is, sent_is, front_count}
use Rattle.part_start_points.proofs.SplitPoints.{points_low}
use Rattle.part_start_plan.proofs.PlanLaws.{outside_is, point_room, fit_turned, start_split, start_11, start_sizes, start_14, start_16, start_cells, start_written}
use Rattle.part_start.proofs.start.Goals as goal

pub test_split-requires : goal.test_split-requires
test_split-requires c =
    (omega (arith, length-replicate {A = ℕ} record_places 0), zeros element_places)

pub returns-in_err-test_split : goal.returns-in_err-test_split
returns-in_err-test_split c =
    let told = start_split _ _ _ _ _ _ _ _ _ _ c.in_err-test_split.ensures (exit_some _ _ refl) in
    (exit_answer _ _ _ c.from_residual.ensures.1 refl ∙ told.0, told.1)

pub overflow_sub-stencil : goal.overflow_sub-stencil
overflow_sub-stencil c =
    omega (arith, (stencil_parts _ _ (passed_facts _ _ _ _ _ _ (sym c.in_ok-test_split.ensures)).stencil).0)

pub returns-then-bad_rule : goal.returns-then-bad_rule
returns-then-bad_rule c =
    start_11 _ _ _ _ _ _ _ _ _ (sym c.in_ok-test_split.ensures) _ c.bad_rule.ensures c.if-bad_rule.true

pub prepare-requires : goal.prepare-requires
prepare-requires c =
    let sn = sym c.in_ok-test_split.ensures in
    let f = passed_facts _ _ _ _ _ _ sn in
    (f.mesh, f.map, f.stencil, refl, refl)

pub returns-in_err-prepare : goal.returns-in_err-prepare
returns-in_err-prepare c =
    let sn = sym c.in_ok-test_split.ensures in
    let eleven = rule_good _ c.args.stencil.now _ _ c.bad_rule.ensures c.if-bad_rule.false in
    let told = start_sizes _ _ _ _ _ _ _ _ _ sn eleven _ c.in_err-prepare.ensures.0 (exit_some _ _ refl) in
    (exit_answer _ _ _ c.from_residual-in_err-prepare.ensures.1 refl ∙ told.0, told.1)

pub returns-then-bad_field : goal.returns-then-bad_field
returns-then-bad_field c =
    let sn = sym c.in_ok-test_split.ensures in
    let prepared = c.in_ok-prepare.ensures in
    let zn = sym prepared.0 in
    let eleven = rule_good _ c.args.stencil.now _ _ c.bad_rule.ensures c.if-bad_rule.false in
    start_14 _ _ _ _ _ _ _ _ c.args.b.now sn eleven zn _ c.cell_count.ensures.0 _ c.bad_field.ensures c.if-bad_field.true

pub some_outside-outside-requires : goal.some_outside-outside-requires
some_outside-outside-requires c =
    let sn = sym c.in_ok-test_split.ensures in
    let sizes = c.sizes_of.ensures in
    ((passed_facts _ _ _ _ _ _ sn).mesh, sizes, c.sought_of-sought.ensures.1 ∙ sym sizes.first_is, omega arith)

pub draw_plan-p-requires : goal.draw_plan-p-requires
draw_plan-p-requires c =
    let sn = sym c.in_ok-test_split.ensures in
    let prepared = c.in_ok-prepare.ensures in
    let zn = sym prepared.0 in
    (sn, zn, prepared.1, prepared.2.inverted, omega arith, omega (arith, prepared.2.roomed.prev_room), refl)

pub returns-then-b-size : goal.returns-then-b-size
returns-then-b-size c =
    let sn = sym c.in_ok-test_split.ensures in
    let prepared = c.in_ok-prepare.ensures in
    let zn = sym prepared.0 in
    let eleven = rule_good _ c.args.stencil.now _ _ c.bad_rule.ensures c.if-bad_rule.false in
    let plan = c.draw_plan-p.ensures in
    start_16 _ _ _ _ _ _ _ _ c.args.b.now sn eleven zn _ c.cell_count.ensures.0 _ c.bad_field.ensures c.if-bad_field.false _ _ _ (prepared.1)
    _ _ _ plan c.if-b-size.true

pub find_sent-requires : goal.find_sent-requires
find_sent-requires c =
    let plan = c.draw_plan-p.ensures in (
      plan.part_low,
      plan.fit.part_few,
      plan.fit.cells_fit,
      plan.fit.cells_few,
      plan.parts_few,
      plan.owners_few,
      omega arith,
      omega (arith, c.in_ok-prepare.ensures.2.roomed.last_room),
      refl,
      plan.sent_is,
    )

pub overflow_sub-stencil-2 : goal.overflow_sub-stencil-2
overflow_sub-stencil-2 c =
    let sn = sym c.in_ok-test_split.ensures in
    omega (arith, (stencil_parts _ _ (passed_facts _ _ _ _ _ _ sn).stencil).0)

pub put_front-s-requires : goal.put_front-s-requires
put_front-s-requires c =
    let sn = sym c.in_ok-test_split.ensures in
    let eleven = rule_good _ c.args.stencil.now _ _ c.bad_rule.ensures c.if-bad_rule.false in
    let plan = c.draw_plan-p.ensures in
    let p = c.draw_plan-p.result in (
      omega (arith, c.if-b-size.false, plan.front_is, plan.long_is),
      omega (arith, plan.long_few),
      plan.fit.part,
      omega (arith, (stencil_parts _ _ (passed_facts _ _ _ _ _ _ sn).stencil).1),
      omega (arith, rule_known _ _ _ eleven),
      plan.fit.first_small,
      omega (arith, plan.fit.cells_few),
      omega (arith, got_is _ _ _ _ p.asked.first _ _ plan.got_are p.owned most_parts (omega arith), plan.fit.got),
      omega (arith, sent_is _ _ _ _ p.asked.first _ _ c.find_sent.ensures.1 most_parts (omega arith), plan.fit.long),
    )

pub put_entries-requires : goal.put_entries-requires
put_entries-requires c =
    let plan = c.draw_plan-p.ensures in
    let s = front_count _ _ _ _ _ _ _ _ _ _ _ _ _ c.put_front-s.ensures in (
      omega (arith, c.if-b-size.false, plan.front_is, plan.long_is, plan.sent_is, s),
      omega (arith, plan.fit.long, plan.sent_is, s),
      plan.fit.order_there,
      plan.fit.near,
      omega (arith, plan.sent_few),
    )

pub put_rest-requires : goal.put_rest-requires
put_rest-requires c =
    let sn = sym c.in_ok-test_split.ensures in
    let prepared = c.in_ok-prepare.ensures in
    let zn = sym prepared.0 in
    let eleven = rule_good _ c.args.stencil.now _ _ c.bad_rule.ensures c.if-bad_rule.false in
    let plan = c.draw_plan-p.ensures in (
      omega (arith, c.if-b-size.false),
      omega (arith, plan.long_few),
      plan.fit.order_few,
      start_cells _ _ _ _ _ _ _ _ c.args.b.now sn eleven zn _ c.cell_count.ensures.0 _ c.bad_field.ensures c.if-bad_field.false
          _ _ _ (prepared.1) _ _ _ plan,
    )

pub add_points-requires : goal.add_points-requires
add_points-requires c =
    let sn = sym c.in_ok-test_split.ensures in
    let plan = c.draw_plan-p.ensures in
    let f = passed_facts _ _ _ _ _ _ sn in
    let sought = c.sought_of-sought.ensures in (
      f.mesh,
      omega (arith, c.in_ok-prepare.ensures.2.roomed.cell_room),
      omega (arith, c.in_ok-prepare.ensures.2.roomed.prev_room),
      omega arith,
      points_low _ f.mesh _ sought.2,
      fit_turned _ _ _ _ _ _ _ (point_room _ c.args.parts _ _ _ _ _ _ sought.0 sought.1 sought.2 _ _ _ plan.long_is plan.long_few
          (omega (arith, c.if-b-size.false))),
    )

pub overflow_cast-result : goal.overflow_cast-result
overflow_cast-result c =
    let plan = c.draw_plan-p.ensures in
    omega (arith, plan.long_few, plan.fit.order_few)

pub shape_of-b : goal.shape_of-b
shape_of-b c =
    omega arith

pub returns : goal.returns
returns c =
    let sn = sym c.in_ok-test_split.ensures in
    let prepared = c.in_ok-prepare.ensures in
    let zn = sym prepared.0 in
    let eleven = rule_good _ c.args.stencil.now _ _ c.bad_rule.ensures c.if-bad_rule.false in
    let plan = c.draw_plan-p.ensures in
    let sought = c.sought_of-sought.ensures in
    let found = c.find_sent.ensures in
    let added = c.add_points.ensures in
    let outside =
    outside_is _ _ _ _ _ _ _ (prepared.1) _ prepared.2.inverted _ _ _ _ _ _ (rw c.view.ensures at c.some_outside-outside.ensures)
    sought.0 sought.1 sought.2 c.sizes_of.ensures.cells_is in
    start_written _ _ _ _ _ _ _ _ c.args.b.now sn eleven zn _ c.cell_count.ensures.0 _ c.bad_field.ensures c.if-bad_field.false
    _ _ _ (prepared.1) _ _ _ plan _ _ _ _ _ _ _ _ _ _ _ _ _ _ _ _ _ found.1 found.0 (omega (arith, plan.sent_few))
    c.put_front-s.ensures c.put_entries.ensures
    c.number_order.ensures c.put_rest.ensures added.0.inverted added.1 sought.0 sought.1 sought.2 outside c.if-b-size.false
