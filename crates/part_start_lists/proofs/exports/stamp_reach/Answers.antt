-- `part_start_lists::exports::stamp_reach` meets its contract. The invariant: the entries before t are stamped. Assumes nothing.
use mathlib.Core.Logic.{inl, inr}
use Rattle.part_start_lists.proofs.FollowLaws.{entries_start, entries_turn, entries_end}
use borrow.Author.Rules.{rules}
use Rattle.part_start_lists.proofs.exports.stamp_reach.Goals as goal

pub loop-t-init : goal.loop-t-init
loop-t-init c = (search rules, inr c.get_or-from.ensures, entries_start _ _ _ _ _ c.get_or-from.ensures c.requires.1)

pub loop-t-preserved : goal.loop-t-preserved
loop-t-preserved c =
    let inv = c.loop-t.invariant in
    (search rules, inl (search rules), entries_turn _ _ _ _ _ _ _ _ inv.0 inv.2 c.word_at.ensures.0 c.put_at.ensures)

pub returns : goal.returns
returns c = entries_end _ _ _ _ _ _ _ (search rules) c.loop-t.invariant.1 c.loop-t.invariant.2
