-- `part_start_points::outside::some_outside` meets its contract. The invariant: no cell before c has one outside, and the row is clear. Assumes nothing.
use mathlib.Core.Path.{refl, sym, ◌∙◌}
use native.Mathlib.Omega.{arith}
use Rattle.part_start_points.proofs.StampLaws.{outside_begin, outside_turn, outside_found, outside_none}
use borrow.Author.Rules.{rules}
use Rattle.part_start_points.proofs.outside.some_outside.Goals as goal

pub overflow_add-c-end : goal.overflow_add-c-end
overflow_add-c-end c =
    let pre = c.requires in
    omega (arith, pre.2, pre.1.first_is, pre.1.cells_is, pre.0.cells_in, pre.0.sizes.n_high)

pub loop-c-init : goal.loop-c-init
loop-c-init c = (refl, search rules, search rules, search rules, search outside_begin)

pub cell_outside-requires : goal.cell_outside-requires
cell_outside-requires c =
    let inv = c.loop-c.invariant in
    let pre = c.requires in (
      pre.0,
      pre.1,
      inv.1,
      omega (arith, c.loop-c-test.true, inv.0, pre.2, pre.1.first_is, pre.1.cells_is, pre.0.cells_in, pre.0.sizes.n_high),
      inv.3,
    )

pub shape_of-stamps-then-cell_outside : goal.shape_of-stamps-then-cell_outside
shape_of-stamps-then-cell_outside c =
    c.cell_outside.ensures.1.room ∙ sym
    c.requires.3

pub returns-then-cell_outside : goal.returns-then-cell_outside
returns-then-cell_outside c =
    let inv = c.loop-c.invariant in
    outside_found _ _ _ _ _ _ _ _ _ _ _ inv.0 _ inv.1 c.loop-c-test.true
    c.cell_outside.ensures.0 c.if-cell_outside.true

pub loop-c-preserved : goal.loop-c-preserved
loop-c-preserved c =
    let inv = c.loop-c.invariant in (
      search rules,
      search rules,
      search rules,
      c.cell_outside.ensures.1,
      outside_turn _ _ _ _ _ _ _ _ _ _ inv.1 inv.4 c.cell_outside.ensures.0 c.if-cell_outside.false,
    )

pub shape_of-stamps : goal.shape_of-stamps
shape_of-stamps c =
    c.loop-c.invariant.3.room ∙ sym
    c.requires.3

pub returns : goal.returns
returns c = let inv = c.loop-c.invariant in outside_none _ _ _ _ _ _ _ _ _ _ _ inv.0 inv.2 c.loop-c-test.false inv.4
