-- `walk_frontier::inner::visit` meets its contract. Assumes nothing.
use mathlib.Core.Path.{refl}
use Rattle.walk_frontier.proofs.VisitLaws.{visit_old, visit_new, visit_adds, visit_few, grown_none, grown_new}
use borrow.Author.Rules.{rules}
use Rattle.walk_frontier.proofs.inner.visit.Goals as goal

pub returns-then-marks-y : goal.returns-then-marks-y
returns-then-marks-y c = record { gathered = search rules; all = search visit_old; few = search rules; grown = search grown_none }

pub returns : goal.returns
returns c =
    let y = c.args.y in
    let new = c.if-marks-y.false in record {
      gathered = visit_new _ y _ _ _ c.requires.0 _ refl new c.requires.2 c.requires.3 _ _ refl refl;
      all = visit_adds _ y _ _ _ c.requires.0 _ refl new c.requires.2 c.requires.3 _ _ refl refl;
      few = visit_few _ y _ _ _ c.requires.0 _ refl new c.requires.2 c.requires.3 _ _ refl refl;
      grown = grown_new _ _ _ _ refl;
    }
