-- `mesh::inner::below_of` meets its contract. Assumes nothing.
use mathlib.Core.Path.{refl, ◌∙◌}
use native.Mathlib.Omega.{arith}
use borrow.Author.Rules.{rules}
use borrow.Author.Tests.{tests}
use Rattle.std.specs.List.{range_with_len}
use Rattle.std.proofs.lemmas.Iterator.{YieldsList-from_range, YieldsList-from_map}
use Rattle.std.proofs.lemmas.Iterator.Consumers.{YieldsList-at, sum_by_from_yields_List, fits_by_from_yields_list}
use Rattle.mesh.specs.Mesh.{counted}
use Rattle.mesh.proofs.ReaderLaws.{below_sum, below_high, below_fits}
use Rattle.mesh.proofs.inner.below_of.Goals as goal

pub sum-requires-clause-fits : goal.sum-requires-clause-fits
sum-requires-clause-fits c =
    fits_by_from_yields_list (counted c.args.m.now) (range_with_len 0 c.args.k) _ _
    (YieldsList-from_map _ (counted c.args.m.now) (YieldsList-at c.map.ensures.source (YieldsList-from_range 0 c.args.k c.args.k refl (search rules))) c.map.ensures.closure
    (λ x r q k. search (rules, tests)))
    (below_fits _ c.type_inv.m _ c.requires)

pub returns : goal.returns
returns c =
    let whole =
    sum_by_from_yields_List (counted c.args.m.now) (range_with_len 0 c.args.k) _ _ c.sum.ensures.ran
    (YieldsList-from_map _ (counted c.args.m.now) (YieldsList-at c.map.ensures.source (YieldsList-from_range 0 c.args.k c.args.k refl (search rules))) c.map.ensures.closure
    (λ x r q k. search (rules, tests)))
    ∙ below_sum c.args.m.now c.args.k in
    (whole, omega (arith, whole, below_high _ c.type_inv.m c.args.k))
