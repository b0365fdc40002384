-- `split_classes::holders::add_reach` meets its contract. The invariant: the entries before t are counted. Assumes nothing.
use mathlib.Core.Path.{refl}
use mathlib.Core.Logic.{inl, inr}
use Rattle.split_classes.proofs.HolderLaws.{pass_start, pass_room, pass_turn, reach_end}
use borrow.Author.Rules.{rules}
use Rattle.split_classes.proofs.holders.add_reach.Goals as goal

pub loop-t-init : goal.loop-t-init
loop-t-init c = (search rules, inr refl, search pass_start)

pub add_holder-requires : goal.add_holder-requires
add_holder-requires c = pass_room _ _ _ _ _ _ _ c.requires.2 c.loop-t.invariant.2

pub loop-t-preserved : goal.loop-t-preserved
loop-t-preserved c = (search rules, inl (search rules), pass_turn _ _ _ _ _ _ _ _ _ _ _ c.loop-t.invariant.0 c.loop-t.invariant.2 c.word_at.ensures.0 c.add_holder.ensures)

pub returns : goal.returns
returns c = search reach_end
