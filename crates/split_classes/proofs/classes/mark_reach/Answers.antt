-- `split_classes::classes::mark_reach` meets its contract. The invariant: the entries before t are marked. Assumes nothing.
use mathlib.Core.Path.{refl}
use mathlib.Core.Logic.{inl, inr}
use Rattle.split_classes.proofs.ClassLaws.{pass_start, pass_turn, pass_end}
use borrow.Author.Rules.{rules}
use Rattle.split_classes.proofs.classes.mark_reach.Goals as goal

pub loop-t-init : goal.loop-t-init
loop-t-init c = (search rules, inr refl, refl, search pass_start)

pub loop-t-preserved : goal.loop-t-preserved
loop-t-preserved c = (search rules, inl (search rules), search rules, search pass_turn)

pub returns : goal.returns
returns c =
    pass_end _ _ _ _ _ _ _ _ _ _ _ c.get_or-from.ensures c.get_or-to.ensures c.loop-t-test.false c.loop-t.invariant.1
    c.loop-t.invariant.3
