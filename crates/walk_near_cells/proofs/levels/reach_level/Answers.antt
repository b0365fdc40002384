-- `walk_near_cells::levels::reach_level` meets its contract. The invariant: the cells before place i were gone on from. Assumes nothing.
use native.Mathlib.Omega.{arith}
use Rattle.walk_near_cells.proofs.LevelLaws.{level_start, level_low, level_high, level_row, level_turn, level_end}
use borrow.Author.Rules.{rules}
use Rattle.walk_near_cells.proofs.levels.reach_level.Goals as goal

pub loop-i-init : goal.loop-i-init
loop-i-init c = (search rules, search rules, search level_start)

pub overflow_sub-lo : goal.overflow_sub-lo
overflow_sub-lo c = search level_low

pub overflow_mul-lo : goal.overflow_mul-lo
overflow_mul-lo c = omega (arith, level_high _ _ _ _ _ _ _ _ _ _ _ _ _ c.requires.0 c.loop-i.invariant.0 c.loop-i-test.true c.loop-i.invariant.2 c.index_at.ensures.0)

pub overflow_add-lo : goal.overflow_add-lo
overflow_add-lo c = omega (arith, level_high _ _ _ _ _ _ _ _ _ _ _ _ _ c.requires.0 c.loop-i.invariant.0 c.loop-i-test.true c.loop-i.invariant.2 c.index_at.ensures.0)

pub reach_row-s-requires : goal.reach_row-s-requires
reach_row-s-requires c = (search level_row, search rules, search rules)

pub loop-i-preserved : goal.loop-i-preserved
loop-i-preserved c = (
  search rules,
  search rules,
  level_turn _ _ _ _ _ _ _ _ _ _ _ _ _ c.requires.0 c.loop-i.invariant.0 c.loop-i-test.true c.loop-i.invariant.2 c.index_at.ensures.0 _ _ _
      c.reach_row-s.ensures,
)

pub returns : goal.returns
returns c = search level_end
