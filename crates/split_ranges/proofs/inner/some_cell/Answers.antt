-- `split_ranges::inner::some_cell` meets its contract. Assumes nothing.
use mathlib.Core.Bool.{true, false}
use mathlib.Core.Path.{◌≡◌}
use Prim.Native.Nat.{◌-◌}
use Rattle.std.proofs.lemmas.Iterator.{cases_from_any}
use Rattle.std.proofs.lemmas.Iterator.Consumers.{YieldsList-from_first}
use borrow.Author.Rules.{rules}
use borrow.Author.Tests.{tests}
use Rattle.walk_incidence.specs.Trails.{rest}
use Rattle.split_ranges.specs.Lowers.{side_at}
use Rattle.split_ranges.proofs.SideLaws.{any_side}
use Rattle.split_ranges.proofs.inner.some_cell.Goals as goal

pub returns : goal.returns
returns c =
    any_side _ _ c.args.first c.args.side c.args.class.now c.args.holders.now
    (cases_from_any c.any.new.self _ _ (λ y. side_at c.args.side c.args.class.now c.args.holders.now (y - c.args.first) ≡ true)
    (λ y. side_at c.args.side c.args.class.now c.args.holders.now (y - c.args.first) ≡ false) c.any.ensures.ran
    (YieldsList-from_first (λ y. y) rest _ c.cells_at.ensures) (λ x q k. search (rules, tests)) (λ x q k. search (rules, tests)))
