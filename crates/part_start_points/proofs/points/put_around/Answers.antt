-- `part_start_points::points::put_around` meets its contract. The invariant: the cells at the points before the k-th are written. Assumes nothing.
use native.Mathlib.Omega.{arith}
use mathlib.Core.Path.{refl}
use Rattle.word_lists.proofs.PutLaws.{many_start, many_end}
use Rattle.part_start_points.proofs.FoundLaws.{around_room, around_turn}
use borrow.Author.Rules.{rules}
use Rattle.part_start_points.proofs.points.put_around.Goals as goal

pub loop-k-init : goal.loop-k-init
loop-k-init c = (refl, search rules, search rules, search rules, search many_start)

pub put_trail-t-requires : goal.put_trail-t-requires
put_trail-t-requires c =
    let inv = c.loop-k.invariant in
    let pre = c.requires in
    around_room _ _ _ _ _ _ _ inv.1 (omega (arith, inv.0, c.loop-k-test.true)) c.get_or-p.ensures
    refl _ _ _ _ pre.0 inv.4 pre.1 inv.3

pub loop-k-preserved : goal.loop-k-preserved
loop-k-preserved c =
    let inv = c.loop-k.invariant in
    let pre = c.requires in (
      search rules,
      search rules,
      search rules,
      search rules,
      around_turn _ _ _ _ _ _ _ inv.1 (omega (arith, inv.0, c.loop-k-test.true))
          c.get_or-p.ensures refl _ _ _ _ pre.0 inv.4 _ _
          c.put_trail-t.ensures,
    )

pub returns : goal.returns
returns c = search many_end
