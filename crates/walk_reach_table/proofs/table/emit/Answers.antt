-- `walk_reach_table::table::emit` meets its contract. The invariant: the entries of the cells before x are written, and their layers cleared. Assumes nothing.
use Rattle.walk_reach_table.proofs.TableLaws.{cleared_start, cleared_turn, cleared_end, emit_start, emit_turn, emit_over, emit_end}
use borrow.Author.Rules.{rules}
use Rattle.walk_reach_table.proofs.table.emit.Goals as goal

pub loop-x-init : goal.loop-x-init
loop-x-init c = (search rules, search rules, search cleared_start, search emit_start)

pub emit_one-requires : goal.emit_one-requires
emit_one-requires c = (search rules, search rules, c.loop-x.invariant.3.few)

pub returns-in_err-s : goal.returns-in_err-s
returns-in_err-s c =
    rw c.from_residual.ensures
    (emit_over _ _ _ _ _ c.requires.0 c.loop-x.invariant.0 c.loop-x.invariant.2 _ _ _ _ _ c.loop-x-test.true c.loop-x.invariant.3 c.in_err-s.ensures.0)

pub loop-x-preserved : goal.loop-x-preserved
loop-x-preserved c = (
  search rules,
  search rules,
  search cleared_turn,
  emit_turn _ _ _ _ _ c.requires.0 c.loop-x.invariant.0 c.loop-x.invariant.2 _ _ _ _ _ _ (search rules) c.loop-x.invariant.3 c.in_ok-s.ensures.0,
)

pub returns : goal.returns
returns c = (search emit_end, search cleared_end)
