-- `walk_part_reach::inner::count_all` meets its contract. The invariant: the first i rows are counted. Assumes nothing.
use native.Mathlib.Omega.{arith}
use Rattle.mesh.proofs.WalkLaws.{stencil_parts}
use Rattle.walk_steps.proofs.NoteLaws.{filled}
use Rattle.walk_part_reach.proofs.RowLaws.{zeros_under, counted_start, counted_turn, counted_end}
use borrow.Author.Rules.{rules}
use Rattle.walk_part_reach.proofs.inner.count_all.Goals as goal

pub loop-i-init : goal.loop-i-init
loop-i-init c = (search rules, counted_start _ _ _ _ (zeros_under _ (filled _ c.args.space.now.marks _ (search rules) (c.fill.ensures.after (λ y e. e)))))

pub count_reach-s-requires : goal.count_reach-s-requires
count_reach-s-requires c = (c.requires.0, omega (arith, c.loop-i.invariant.1.turns, c.loop-i.invariant.0, c.requires.1), c.loop-i.invariant.1.fresh)

pub overflow_add-s : goal.overflow_add-s
overflow_add-s c = omega (arith, c.loop-i.invariant.1.few, c.count_reach-s.ensures.1, c.loop-i.invariant.0, c.requires.1)

pub overflow_add-mark : goal.overflow_add-mark
overflow_add-mark c = omega (arith, c.loop-i.invariant.1.turns, c.loop-i.invariant.0, c.requires.1, (stencil_parts _ _ c.requires.0.ground.stencil).1)

pub loop-i-preserved : goal.loop-i-preserved
loop-i-preserved c = (
  search rules,
  counted_turn _ _ _ _ _ _ _ _ _ _ (omega (arith, (stencil_parts _ _ c.requires.0.ground.stencil).1)) c.loop-i.invariant.1 c.count_reach-s.ensures.0
      c.count_reach-s.ensures.1 c.count_reach-s.ensures.2,
)

pub returns : goal.returns
returns c = counted_end _ _ _ _ _ _ _ _ c.loop-i.invariant.0 (omega (arith, c.loop-i-test.false)) c.loop-i.invariant.1
