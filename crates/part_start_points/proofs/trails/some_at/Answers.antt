-- `part_start_points::trails::some_at` meets its contract. Assumes nothing.
use mathlib.Core.Path.{◌≡◌}
use Prim.Native.Nat.{◌-◌}
use Rattle.std.proofs.lemmas.Iterator.{cases_from_any}
use Rattle.std.proofs.lemmas.Iterator.Consumers.{YieldsList-from_first}
use borrow.Author.Rules.{rules}
use borrow.Author.Tests.{tests}
use Rattle.vocabulary.specs.Bytes.{byte_at}
use Rattle.walk_incidence.specs.Trails.{rest}
use Rattle.part_start_points.proofs.TrailSteps.{any_at}
use Rattle.part_start_points.proofs.trails.some_at.Goals as goal

pub returns : goal.returns
returns c =
    any_at _ _ c.args.row.now c.args.first c.args.k
    (cases_from_any c.any.new.self _ _ (λ y. byte_at c.args.row.now (y - c.args.first) ≡ c.args.k) (λ y. byte_at c.args.row.now (y - c.args.first) ≡ c.args.k → ⊥) c.any.ensures.ran
    (YieldsList-from_first (λ y. y) rest _ c.cells_at.ensures) (λ x q k. search (rules, tests)) (λ x q k. search (rules, tests)))
