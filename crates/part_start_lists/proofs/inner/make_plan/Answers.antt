-- `part_start_lists::inner::make_plan` meets its contract. Assumes nothing.
use mathlib.Core.Path.{refl}
use native.Mathlib.Omega.{arith}
use Rattle.part_start_lists.proofs.CountLaws.{got_told}
use Rattle.part_start_lists.proofs.StartLists.{plan_fit, plan_small, plan_drawn}
use Rattle.part_start_lists.proofs.inner.make_plan.Goals as goal

pub row_total-requires : goal.row_total-requires
row_total-requires c =
    let pre = c.requires in
    let row = c.classify.ensures in
    let order = c.add_order-held.ensures in
    let tally = c.count_classes.ensures in
    let fit = plan_fit _ _ _ _ _ _ _ pre.0 _ row _ _ _ order pre.5 _ tally _ _ c.get_or-inner.ensures c.get_or.ensures in
    (fit.near, omega (arith, fit.long), omega (arith, fit.owned_few, fit.order_few))

pub points_word-requires : goal.points_word-requires
points_word-requires c =
    let pre = c.requires in
    let row = c.classify.ensures in
    let order = c.add_order-held.ensures in
    let tally = c.count_classes.ensures in
    let fit = plan_fit _ _ _ _ _ _ _ pre.0 _ row _ _ _ order pre.5 _ tally _ _ c.get_or-inner.ensures c.get_or.ensures in
    plan_small _ fit.order_few fit.owned_few (omega (arith, fit.long, c.row_total.ensures)) pre.1 pre.2 pre.3

pub words-requires : goal.words-requires
words-requires c =
    let pre = c.requires in
    let row = c.classify.ensures in
    let order = c.add_order-held.ensures in
    let tally = c.count_classes.ensures in
    let fit = plan_fit _ _ _ _ _ _ _ pre.0 _ row _ _ _ order pre.5 _ tally _ _ c.get_or-inner.ensures c.get_or.ensures in
    plan_small _ fit.order_few fit.owned_few (omega (arith, fit.long, c.row_total.ensures)) pre.1 pre.2 pre.3

pub returns : goal.returns
returns c =
    let pre = c.requires in
    let row = c.classify.ensures in
    let order = c.add_order-held.ensures in
    let tally = c.count_classes.ensures in (
      refl,
      refl,
      plan_drawn _ _ _ _ _ _ _ pre.0 _ row _ _ _ order pre.5 _ tally _ _ c.get_or-inner.ensures c.get_or.ensures _ refl refl
          c.row_total.ensures _ _ c.points_word.ensures c.words.ensures,
      got_told _ _ _ _ _ _ _ pre.0.cells_few row tally,
    )
