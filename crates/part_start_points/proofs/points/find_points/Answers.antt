-- `part_start_points::points::find_points` meets its contract. The invariant: the points before p that touch the part are listed. Assumes nothing.
use mathlib.Core.Path.{ap, refl}
use mathlib.Core.Bool.{not}
use Rattle.part_start_points.proofs.FoundLaws.{found_start, found_no, found_yes, found_end}
use borrow.Author.Rules.{rules}
use Rattle.part_start_points.proofs.points.find_points.Goals as goal

pub loop-p-init : goal.loop-p-init
loop-p-init c = (refl, search rules, search rules, search rules, search rules, search found_start)

pub loop-p-preserved-then-not-some_at : goal.loop-p-preserved-then-not-some_at
loop-p-preserved-then-not-some_at c = (search rules, search rules, search rules, search rules, search rules, search found_no)

pub loop-p-preserved : goal.loop-p-preserved
loop-p-preserved c =
    let inv = c.loop-p.invariant in (
      search rules,
      search rules,
      search rules,
      search rules,
      search rules,
      found_yes _ _ _ _ _ _ _ _ inv.1 inv.5 refl _
          c.some_at.ensures _ _ _ _ (ap not c.if-not-some_at.false) inv.3
          c.loop-p-test.true inv.0
          c.requires.1 inv.4 c.put_at.ensures,
    )

pub returns : goal.returns
returns c = (search found_end, search rules)
