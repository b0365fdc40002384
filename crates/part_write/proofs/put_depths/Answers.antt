-- `part_write::put_depths` meets its contract. The invariant: the first t depths are put. Assumes nothing.
use native.Mathlib.Omega.{arith}
use Rattle.vocabulary.proofs.IntervalLaws.{stored_start, stored_end}
use Rattle.part_write.proofs.WriteLaws.{put_held, put_turn}
use borrow.Author.Rules.{rules}
use Rattle.part_write.proofs.put_depths.Goals as goal

pub loop-t-init : goal.loop-t-init
loop-t-init c = (search rules, search rules, search stored_start)

pub copy_depth-requires : goal.copy_depth-requires
copy_depth-requires c =
    let pre = c.requires in (
      put_held _ _ _ c.args.s.opened _ c.sizes_of.ensures _ c.exports_word-base.ensures _ _ pre.0 _ _ c.loop-t-test.true c.word_at-l.ensures.0,
      omega (arith, pre.3, c.loop-t.invariant.1, c.loop-t-test.true),
    )

pub loop-t-preserved : goal.loop-t-preserved
loop-t-preserved c =
    let pre = c.requires in (
      search rules,
      search rules,
      put_turn _ _ _ c.args.s.opened _ c.sizes_of.ensures _ c.exports_word-base.ensures _ _ pre.0 _ _ c.loop-t-test.true c.word_at-l.ensures.0 _ _ _ pre.3
          c.loop-t.invariant.2 c.copy_depth.ensures,
    )

pub returns : goal.returns
returns c = search stored_end
