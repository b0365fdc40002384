-- `part_update::inner::renew` meets its contract. The invariant: the new values of the cells before l are made. Assumes nothing.
use mathlib.Core.Path.{refl}
use native.Mathlib.Omega.{arith}
use Rattle.vocabulary.proofs.IntervalLaws.{stored_start, stored_up}
use Rattle.part_update.proofs.RenewLaws.{renew_turn}
use borrow.Author.Rules.{rules}
use Rattle.part_update.proofs.inner.renew.Goals as goal

pub loop-l-init : goal.loop-l-init
loop-l-init c = (refl, search rules, search rules, search rules, search stored_start)

pub loop-l-preserved : goal.loop-l-preserved
loop-l-preserved c =
    let pre = c.requires in (
      search rules,
      search rules,
      search rules,
      search rules,
      renew_turn _ _ _ _ _ pre.3 _ c.loop-l.invariant.1 (omega (arith, c.loop-l-test.true, c.loop-l.invariant.0)) _ c.renew_one-x.ensures.0 _ _ c.loop-l.invariant.4
          c.put_value.ensures,
    )

pub returns : goal.returns
returns c = search stored_up
